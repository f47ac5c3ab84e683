-- Each step of the markers keeps the disk as the machine's state says.
use Rattle.std.proofs.Common.{◌≡◌, ◌⊎◌, inl, inr, ℕ, zero, suc, ◌+◌, ◌<◌, ◌≤◌, List, [], ◌∷◌, ◌++◌, length, take, Option, Some, None, refl, sym, ◌∙◌, ap, subst, arith, true, false}
use Rattle.std.specs.Prelude.{◌≢◌, slice_get, IsSome, is_some}
use Rattle.std.specs.Option.{option_or}
use Rattle.std.proofs.lemmas.Bool.{cases_eq}
use Rattle.pm_types.specs.declared.place.Place.{Place}
use Rattle.pm_types.specs.declared.shape.Mark.{Mark}
use Rattle.pm_types.specs.declared.shape.Shape.{Shape}
use Rattle.pm_frame.specs.Frames.{Frame}
use Rattle.pm_disk.specs.Files.{File, Change, bytes_of, content, changed, after, at_change, with_change}
use Rattle.pm_disk.specs.Images.{Leaves, IsTrueOf, Lasting, KeepsRange}
use Rattle.pm_disk.specs.Worlds.{World, slot_at}
use Rattle.pm_disk.specs.declared.mark.TheConstants.{SLOT_LEN}
use Rattle.pm_disk.proofs.Files.{kept_range, quiet_left, quiet_content, quiet_lasting, lasting_push, each_change, content_change}
use Rattle.pm_disk.proofs.Gaps.{slot_alone}
use Rattle.pm_records.specs.LogFiles.{FilesHoldLog, HasLasting, forced_contents}
use Rattle.pm_records.specs.Logs.{all_frames, next_place, after_frames, is_over, HasFrames}
use Rattle.pm_records.proofs.Runs.{option_cases, after_frames-append, rises_from, neither, over-append}
use Rattle.pm_marks.specs.Slots.{IsMark, slot_of, slot_bytes, bytes_in_slot, mark_at}
use Rattle.pm_marks.specs.InForce.{Checkpoint, NoStart, Started, Ended, number_in}
use Rattle.pm_disk.specs.declared.mark.MarkFile.{MarkFile}
use Rattle.pm_disk.specs.declared.mark.MarkFile.TheVariants as mark_file
use Rattle.pm_marks.specs.MarkWrites.{mark_change, first_change, HasFirstSlot, with_first}
use Rattle.pm_marks.proofs.FirstSlots.{cleared_there, cleared_none, short_none, first_cases, first_reads, others_stay}
use Rattle.pm_marks.proofs.SlotMarks.{length-slot_bytes, mark_in-some, mark_within}
use Rattle.pm_marks.proofs.SlotWrites.{mark_stands, mark_stays}
use Rattle.pm_core.specs.BasePages.{Partitions, no_pages, laid_over}
use Rattle.pm_core.specs.States.{State, View}
use Rattle.pm_core.specs.Stands.{IsInForce, HasNewFirst, IsStill, MarksSay, IsViewOf, soon_or, soon_checkpoint, QuietMarks, MarksLeave, RebuiltIsLasting, IsGood, Stands}
use Rattle.pm_core.specs.Machine.{WriteFirst, WriteStart, ForceStart, ForceEnd, CanStart, IsSoon, next_state, next_world}

-- ---- marker files with nothing pending but the zeros of a first slot

-- a file that has had nothing pending
all_old : (file : File) → file.since ≡ [] → (k : ℕ) → at_change file k ≡ content file
all_old file quiet k = subst (λ (cs : List Change). after (take k cs) file.forced ≡ after cs file.forced) (sym quiet) (none k)
  where
    none : (k : ℕ) → after (take k []) file.forced ≡ file.forced
    none zero = refl
    none (suc k) = refl

-- before and after the zeros no slot is valid
new_first_none : (file : File) → HasNewFirst file → (k slot : ℕ) → mark_at slot (bytes_of (at_change file k)) ≡ None
new_first_none file new k slot = subst (λ (cs : List Change). mark_at slot (bytes_of (after (take k cs) file.forced)) ≡ None) (sym new.since) (none k)
  where
    none : (k : ℕ) → mark_at slot (bytes_of (after (take k (first_change file.forced ∷ [])) file.forced)) ≡ None
    none zero = short_none file.forced new.short slot
    none (suc zero) = cleared_none file.forced new.short slot
    none (suc (suc k)) = cleared_none file.forced new.short slot

new_first_content : (file : File) → HasNewFirst file → (slot : ℕ) → mark_at slot (bytes_of (content file)) ≡ None
new_first_content file new slot =
    subst (λ (cs : List Change). mark_at slot (bytes_of (after cs file.forced)) ≡ None) (sym new.since) (cleared_none file.forced new.short slot)

-- what stood at any moment stands now
still_known : (file : File) → IsStill file → (k slot : ℕ) (y : Mark) → mark_at slot (bytes_of (at_change file k)) ≡ Some y → mark_at slot (bytes_of (content file)) ≡ Some y
still_known file (inl quiet) k slot y is = ap (λ (o : Option (List ℕ)). mark_at slot (bytes_of o)) (sym (all_old file quiet k)) ∙ is
still_known file (inr new) k slot y is = let no : None ≡ Some y = sym (new_first_none file new k slot) ∙ is in absurd cc

-- what a crash leaves reads as the file does
pub still_reads : (file : File) (left : Option (List ℕ)) → IsStill file → Leaves file left → IsTrueOf mark_at file left → (slot : ℕ) → mark_at slot (bytes_of left) ≡ mark_at slot (bytes_of (content file))
still_reads file left (inl quiet) leaves honest slot = ap (mark_at slot) (quiet_left file left quiet leaves ∙ sym (ap bytes_of (quiet_content file quiet)))
still_reads file left (inr new) leaves honest slot = elim (option_cases (mark_at slot (bytes_of left))) [
  | inl none ↦ none ∙ sym (new_first_content file new slot)
  | inr some ↦
      let was = honest.stood slot some.0 some.1 in
      let no : None ≡ Some some.0 = sym (new_first_none file new was.0 slot) ∙ was.2 in
      absurd cc
]

-- the marker files say the same while their slots read the same
pub in_force_same : (x : Mark) (st lt : List ℕ) → ((slot : ℕ) → mark_at slot lt ≡ mark_at slot st) → IsInForce x st → IsInForce x lt
in_force_same x st lt same is = record {
  there = same (slot_of x.number) ∙ is.there;
  highest = λ slot y there. is.highest slot y (sym (same slot) ∙ there);
}

pub say_same : (checkpoint : Checkpoint) (st en lt ln : List ℕ) → ((slot : ℕ) → mark_at slot lt ≡ mark_at slot st) → ((slot : ℕ) → mark_at slot ln ≡ mark_at slot en) → MarksSay checkpoint st en → MarksSay checkpoint lt ln
say_same NoStart st en lt ln same_st same_en is = (λ slot. same_st slot ∙ is.0 slot, λ slot. same_en slot ∙ is.1 slot)
say_same (Started x) st en lt ln same_st same_en is =
    (in_force_same x st lt same_st is.0, λ slot y there. is.1 slot y (sym (same_en slot) ∙ there), λ there. is.2 (sym (same_en (slot_of x.number)) ∙ there))
say_same (Ended x) st en lt ln same_st same_en is =
    (in_force_same x st lt same_st is.0, λ slot y there. is.1 slot y (sym (same_en slot) ∙ there), same_en (slot_of x.number) ∙ is.2)

-- marker files with nothing else pending read as they stand
pub still_marks : (starts ends : File) (view : View) → IsStill starts → IsStill ends → MarksSay view.checkpoint (bytes_of (content starts)) (bytes_of (content ends)) → MarksLeave starts ends view None
still_marks starts ends view qs qe is st en leaves_st true_st leaves_en true_en = (
  view,
  refl,
  say_same view.checkpoint (bytes_of (content starts)) (bytes_of (content ends)) (bytes_of st) (bytes_of en)
      (still_reads starts st qs leaves_st true_st) (still_reads ends en qe leaves_en true_en) is,
)

pub quiet_marks : (starts ends : File) (view : View) → starts.since ≡ [] → ends.since ≡ [] → MarksSay view.checkpoint (bytes_of (content starts)) (bytes_of (content ends)) → MarksLeave starts ends view None
quiet_marks starts ends view qs qe is = still_marks starts ends view (inl qs) (inl qe) is

-- a state with other markers
pub remark : (wanted : Shape) (s : State) (log pages : ℕ → File) (now : View) (soon : Option View) (view : View) → IsGood wanted s log pages view → IsGood wanted (record s { now = now; soon = soon }) log pages view
remark wanted s log pages now soon view good = record {
  shaped = good.shaped;
  rebuilt_lasts = good.rebuilt_lasts;
  has_meta = good.has_meta;
  bare = good.bare;
  pages_stand = good.pages_stand;
  calm = good.calm;
  based = good.based;
  based_is = good.based_is;
  frames = good.frames;
  replay = good.replay;
  holds = good.holds;
  begins = good.begins;
  restarts = good.restarts;
  empty_wanted = good.empty_wanted;
}

-- Once the marker is forced its checkpoint is the one in force.
forced_step : (wanted : Shape) (told : List ℕ → ℕ) (s : State) (w v : World) (view : View) → Stands wanted told s w → s.soon ≡ Some view → v.log ≡ w.log → v.pages ≡ w.pages → IsStill v.starts → IsStill v.ends
    → content v.starts ≡ content w.starts → content v.ends ≡ content w.ends → v.said ≡ w.said → Stands wanted told (record s { now = soon_or s.soon s.now; soon = None }) v
forced_step wanted told s w v view stands soon log pages qs qe starts ends said =
    let next : View = soon_or s.soon s.now in
    let is : next ≡ view = ap (λ o. soon_or o s.now) soon in
    let reads : MarksSay next.checkpoint (bytes_of (content v.starts)) (bytes_of (content v.ends)) =
    subst (λ (a : Option (List ℕ)). MarksSay next.checkpoint (bytes_of a) (bytes_of (content v.ends))) (sym starts)
    (subst (λ (b : Option (List ℕ)). MarksSay next.checkpoint (bytes_of (content w.starts)) (bytes_of b)) (sym ends) stands.reads) in
    record {
      log = subst (λ (l : ℕ → File). FilesHoldLog all_frames l s.low s.at s.pending s.tail) (sym log) stands.log;
      ends = stands.ends;
      marks = still_marks v.starts v.ends next qs qe reads;
      reads = reads;
      quiet = (qs, qe);
      good = λ u u_is.
          let here : u ≡ view = u_is ∙ is in
          let there : IsViewOf s.now s.soon u = subst (λ o. IsViewOf s.now o u) (sym soon) (inr here) in
          subst (λ (l : ℕ → File). IsGood wanted (record s { now = next; soon = None }) l v.pages u) (sym log)
          (subst (λ (p : ℕ → File). IsGood wanted (record s { now = next; soon = None }) w.log p u) (sym pages) (remark wanted s w.log w.pages next None u (stands.good u there)));
      well = stands.well;
      newest = stands.newest;
      newest_is = stands.newest_is;
      said = subst (λ (l : List ℕ). told l ≤ length s.order) (sym said) stands.said;
      since_first = stands.since_first;
    }

-- what is pending while a marker isn't forced
soon_is : (s : State) (view : View) (checkpoint : Checkpoint) (starts ends : File) → s.soon ≡ Some view → view.checkpoint ≡ checkpoint → QuietMarks (soon_checkpoint s.soon) starts ends → QuietMarks (Some checkpoint) starts ends
soon_is s view checkpoint starts ends is says quiet =
    subst (λ c. QuietMarks (Some c) starts ends) says (subst (λ o. QuietMarks (soon_checkpoint o) starts ends) is quiet)

pub force_start_step : (wanted : Shape) (told : List ℕ → ℕ) (s : State) (w : World) → Stands wanted told s w → IsSoon Started s → Stands wanted told (next_state ForceStart s w) (next_world ForceStart s w)
force_start_step wanted told s w stands can =
    forced_step wanted told s w (next_world ForceStart s w) can.view stands can.is refl refl (inl refl)
    (soon_is s can.view (Started can.mark) w.starts w.ends can.is can.says stands.quiet) refl refl refl

pub force_end_step : (wanted : Shape) (told : List ℕ → ℕ) (s : State) (w : World) → Stands wanted told s w → IsSoon Ended s → Stands wanted told (next_state ForceEnd s w) (next_world ForceEnd s w)
force_end_step wanted told s w stands can =
    forced_step wanted told s w (next_world ForceEnd s w) can.view stands can.is refl refl
    (soon_is s can.view (Ended can.mark) w.starts w.ends can.is can.says stands.quiet) (inl refl) refl refl refl

-- A mark is written into a file with nothing else pending, whose first slot is there.
module _ (x : Mark) (file : File) (still : IsStill file) (fits : IsMark x) (there_first : HasFirstSlot file) where
  abbrev c : Change
  c = mark_change (content file) x

  abbrev old : List ℕ
  old = bytes_of (content file)

  abbrev new : List ℕ
  new = bytes_of (changed c (content file))

  abbrev Known : ℕ → Mark → Type 0
  Known slot y = (mark_at slot old ≡ Some y) ⊎ (y ≡ x)

  -- what the file reads then
  pub now_known : (slot : ℕ) (y : Mark) → mark_at slot new ≡ Some y → Known slot y
  now_known slot y is = elim (cases_eq slot (slot_of x.number)) [
    | inl here ↦
        let at : mark_at slot new ≡ Some x = ap (λ n. mark_at n new) here ∙ mark_stands (content file) x fits in
        let same : Some y ≡ Some x = sym is ∙ at in
        inr cc
    | inr apart ↦ inl (sym (others_stay x file there_first slot apart) ∙ is)
  ]

  -- what an image of it reads: no other marks
  pub image_known : (left : Option (List ℕ)) → IsTrueOf mark_at (with_change file c) left → (slot : ℕ) (y : Mark) → mark_at slot (bytes_of left) ≡ Some y → Known slot y
  image_known left honest slot y is =
      let was = honest.stood slot y is in
      each_change file c (λ o. mark_at slot (bytes_of o) ≡ Some y → Known slot y) (λ k le there. inl (still_known file still k slot y there)) (λ there. now_known slot y there) was.0 was.1 was.2

  -- and the other slot as it was
  pub image_keeps : (left : Option (List ℕ)) → Leaves (with_change file c) left → (slot : ℕ) (y : Mark) → slot ≢ slot_of x.number → mark_at slot old ≡ Some y → mark_at slot (bytes_of left) ≡ Some y
  image_keeps left leaves slot y apart is = elim still [
    | inr zeros ↦ let no : None ≡ Some y = sym (new_first_content file zeros slot) ∙ is in absurd cc
    | inl quiet ↦
        let there = mark_within slot old y is in
        let forced : old ≡ bytes_of file.forced = ap bytes_of (quiet_content file quiet) in
        let there_forced = ap (λ (l : List ℕ). length l) forced in
        let low = slot_at slot in
        let high = slot_at slot + SLOT_LEN in
        let keeps : KeepsRange (content file) c low high = slot_alone (content file) (slot_bytes x) (slot_of x.number) slot (length-slot_bytes x) apart in
        let lasting : Lasting (with_change file c) low high =
        lasting_push file c low high (quiet_lasting file low high quiet (omega (arith, there, there_forced)))
        (λ i le lt. keeps.apart i le lt (omega (arith, lt, there))) (omega (arith, there, keeps.no_shorter)) (λ i le lt. keeps.same i le lt (omega (arith, lt, there))) in
        let k = kept_range (with_change file c) low high left lasting leaves in
        mark_stays slot old (bytes_of left) y is k.long (λ i le lt. k.same i le lt ∙ ap (λ (l : List ℕ). slice_get l i) (sym forced))
  ]

-- ---- the first slot is made to be there

still_first : (file : File) → IsStill file → IsStill (with_first file)
still_first file still = first_cases file IsStill (λ short. elim still [
  | inl quiet ↦
      let same : content file ≡ file.forced = quiet_content file quiet in
      inr (record {
        short = subst (λ (o : Option (List ℕ)). length (bytes_of o) < SLOT_LEN) same short;
        since = ap (λ (cs : List Change). cs ++ first_change (content file) ∷ []) quiet ∙ ap (λ (o : Option (List ℕ)). first_change o ∷ []) same;
      })
  | inr new ↦
      let there : SLOT_LEN ≤ length (bytes_of (content file)) =
      subst (λ (cs : List Change). SLOT_LEN ≤ length (bytes_of (after cs file.forced))) (sym new.since) (cleared_there file.forced new.short) in
      absurd (omega (arith, short, there))
]) (λ there. still)

module _ (wanted : Shape) (told : List ℕ → ℕ) (s : State) (w : World) (stands : Stands wanted told s w) (alone : s.soon ≡ None) where
  still_both : IsStill w.starts × IsStill w.ends
  still_both = subst (λ o. QuietMarks (soon_checkpoint o) w.starts w.ends) alone stands.quiet

  -- whatever the marker files are then, as long as they are still and read as before
  files_still : (starts ends : File) → IsStill starts → IsStill ends → ((slot : ℕ) → mark_at slot (bytes_of (content starts)) ≡ mark_at slot (bytes_of (content w.starts)))
      → ((slot : ℕ) → mark_at slot (bytes_of (content ends)) ≡ mark_at slot (bytes_of (content w.ends))) → Stands wanted told s (record w { starts = starts; ends = ends })
  files_still starts ends qs qe same_st same_en =
      let next : View = soon_or s.soon s.now in
      let is : next ≡ s.now = ap (λ o. soon_or o s.now) alone in
      let reads : MarksSay next.checkpoint (bytes_of (content starts)) (bytes_of (content ends)) =
      say_same next.checkpoint (bytes_of (content w.starts)) (bytes_of (content w.ends)) (bytes_of (content starts)) (bytes_of (content ends)) same_st same_en stands.reads in
      record {
        log = stands.log;
        ends = stands.ends;
        marks = subst (λ o. MarksLeave starts ends s.now o) (sym alone)
            (still_marks starts ends s.now qs qe (subst (λ (v : View). MarksSay v.checkpoint (bytes_of (content starts)) (bytes_of (content ends))) is reads));
        reads = reads;
        quiet = subst (λ o. QuietMarks (soon_checkpoint o) starts ends) (sym alone) (qs, qe);
        good = stands.good;
        well = stands.well;
        newest = stands.newest;
        newest_is = stands.newest_is;
        said = stands.said;
        since_first = stands.since_first;
      }

  pub write_first_step : (file : MarkFile) → Stands wanted told (next_state (WriteFirst file) s w) (next_world (WriteFirst file) s w)
  write_first_step mark_file.Start =
      files_still (with_first w.starts) w.ends (still_first w.starts still_both.0) still_both.1 (λ slot. first_reads slot w.starts) (λ slot. refl)
  write_first_step mark_file.End =
      files_still w.starts (with_first w.ends) still_both.0 (still_first w.ends still_both.1) (λ slot. refl) (λ slot. first_reads slot w.ends)

odd_even : (n : ℕ) → slot_of n ≢ slot_of (n + 1)
odd_even n is = omega (arith, is)

-- what the markers of a checkpoint number
say_starts : (now : Checkpoint) (st en : List ℕ) → MarksSay now st en → (slot : ℕ) (y : Mark) → mark_at slot st ≡ Some y → y.number ≤ number_in now
say_starts NoStart st en is slot y there = let no : None ≡ Some y = sym (is.0 slot) ∙ there in absurd cc
say_starts (Started x) st en is slot y there = is.0.highest slot y there
say_starts (Ended x) st en is slot y there = is.0.highest slot y there

say_ends : (now : Checkpoint) (st en : List ℕ) → MarksSay now st en → (slot : ℕ) (y : Mark) → mark_at slot en ≡ Some y → y.number ≤ number_in now
say_ends NoStart st en is slot y there = let no : None ≡ Some y = sym (is.1 slot) ∙ there in absurd cc
say_ends (Started x) st en is slot y there = is.1 slot y there
say_ends (Ended x) st en is slot y there = is.1 slot y there

-- where all marks are known and the next one isn't among them, the checkpoint stays
say_stays : (now : Checkpoint) (x : Mark) (old st en : List ℕ) → x.number ≡ number_in now + 1 → MarksSay now old en
    → ((slot : ℕ) (y : Mark) → mark_at slot st ≡ Some y → mark_at slot old ≡ Some y)
    → ((slot : ℕ) (y : Mark) → slot ≢ slot_of x.number → mark_at slot old ≡ Some y → mark_at slot st ≡ Some y) → MarksSay now st en
say_stays NoStart x old st en number is known keeps = (
  λ slot. elim (option_cases (mark_at slot st)) [
    | inl none ↦ none
    | inr some ↦ let no : None ≡ Some some.0 = sym (is.0 slot) ∙ known slot some.0 some.1 in absurd cc
  ],
  is.1,
)
say_stays (Started n) x old st en number is known keeps =
    let apart : slot_of n.number ≢ slot_of x.number = λ e. odd_even n.number (e ∙ ap slot_of number) in
    (record { there = keeps (slot_of n.number) n apart is.0.there; highest = λ slot y there. is.0.highest slot y (known slot y there) }, is.1, is.2)
say_stays (Ended n) x old st en number is known keeps =
    let apart : slot_of n.number ≢ slot_of x.number = λ e. odd_even n.number (e ∙ ap slot_of number) in
    (record { there = keeps (slot_of n.number) n apart is.0.there; highest = λ slot y there. is.0.highest slot y (known slot y there) }, is.1, is.2)

-- where the next mark stands, it is in force
say_begins : (now : Checkpoint) (x : Mark) (old st en : List ℕ) → x.number ≡ number_in now + 1 → MarksSay now old en
    → ((slot : ℕ) (y : Mark) → mark_at slot st ≡ Some y → (mark_at slot old ≡ Some y) ⊎ (y ≡ x)) → mark_at (slot_of x.number) st ≡ Some x → MarksSay (Started x) st en
say_begins now x old st en number is known there = (
  record {
    there = there;
    highest = λ slot y y_is. elim (known slot y y_is) [
      | inl before ↦ let le = say_starts now old en is slot y before in omega (arith, le, number)
      | inr same ↦ let e = ap (λ (z : Mark). z.number) same in omega (arith, e)
    ];
  },
  λ slot y y_is. let le = say_ends now old en is slot y y_is in omega (arith, le, number),
  λ ended. let le = say_ends now old en is (slot_of x.number) x ended in absurd (omega (arith, le, number)),
)

-- no page is rebuilt while no checkpoint runs
idle_none : (log : ℕ → File) (low : ℕ) (at : Place) (checkpoint : Checkpoint) (rebuilt : Partitions) → ((x : Mark) → checkpoint ≡ Started x → ⊥) → RebuiltIsLasting checkpoint log low at rebuilt → rebuilt ≡ no_pages
idle_none log low at NoStart rebuilt idle is = is
idle_none log low at (Ended x) rebuilt idle is = is
idle_none log low at (Started x) rebuilt idle is = absurd (idle x refl)

-- from each place of a frame of the lasting log on, the later ones lead to its end
pub leads_later : (log : ℕ → File) (low : ℕ) (at p q : Place) (xs ys : List Frame) → HasLasting all_frames log low at p (xs ++ ys) → after_frames p xs ≡ q → HasLasting all_frames log low at q ys
leads_later log low at p q xs ys leads is = subst (λ (r : Place). HasLasting all_frames log low at r ys) is (record {
  kept = omega (arith, rises_from p xs, leads.kept);
  run = run_back (forced_contents log) p xs ys leads.run;
  to = sym (after_frames-append p xs ys) ∙ leads.to;
  goes_on = (neither (is_over p xs) (is_over (after_frames p xs) ys) (sym (over-append p xs ys) ∙ leads.goes_on)).1;
})
  where
    run_back : (c : ℕ → List ℕ) (p : Place) (xs ys : List Frame) → HasFrames all_frames c p (xs ++ ys) → HasFrames all_frames c (after_frames p xs) ys
    run_back c p [] ys run = run
    run_back c p (x ∷ xs) ys run = run_back c (next_place p x) xs ys run.2

-- with the guard of Start the disk is good with the new marker in force
pub may_start : (wanted : Shape) (s : State) (w : World) (mark : Mark) (rebuilt : Partitions) → IsGood wanted s w.log w.pages s.now → CanStart mark rebuilt s w
    → IsGood wanted s w.log w.pages (record { checkpoint = Started mark; rebuilt = rebuilt })
may_start wanted s w mark rebuilt good may = record {
  shaped = may.shaped;
  rebuilt_lasts = record { before = may.before; after = may.after; leads = may.leads; reaches = may.reaches; is = may.rebuilds };
  has_meta = may.has_meta;
  bare = tt;
  pages_stand = record {
    kept = λ part index b none_new there. good.pages_stand.kept part index b (none part index) there;
    absent = λ part index none_new there. elim (good.pages_stand.absent part index (none part index) there) [
      | inl short ↦ inl short
      | inr meta ↦ inr (still part 0 meta)
    ];
  };
  calm = λ part. elim (good.calm part) [
    | inl quiet ↦ inl quiet
    | inr due ↦ let no : false ≡ true = sym (ap (λ o. is_some o) (none part due.0)) ∙ due.1 in absurd cc
  ];
  based = may.based;
  based_is = may.based_is;
  frames = may.frames;
  replay = may.replay;
  holds = may.same_map;
  begins = record {
    frames = may.after;
    leads = leads_later w.log s.low s.at mark.from mark.begin may.before may.after may.leads may.reaches;
    in_grammar = may.in_grammar;
    begins = may.begins;
  };
  restarts = tt;
  empty_wanted = tt;
}
  where
    nothing : s.now.rebuilt ≡ no_pages
    nothing = idle_none w.log s.low s.at s.now.checkpoint s.now.rebuilt may.idle good.rebuilt_lasts

    none : (part index : ℕ) → s.now.rebuilt part index ≡ None
    none part index = ap (λ (p : Partitions). p part index) nothing

    still : (part index : ℕ) → IsSome (laid_over s.now.rebuilt s.files part index) → IsSome (laid_over rebuilt s.files part index)
    still part index some = elim (option_cases (rebuilt part index)) [
      | inl nothing_new ↦
          ap (λ o. is_some (option_or o (s.files part index))) nothing_new ∙ sym (ap (λ o. is_some (option_or o (s.files part index))) (none part index)) ∙ some
      | inr there ↦ ap (λ o. is_some (option_or o (s.files part index))) there.1
    ]

-- START is written.
module _ (wanted : Shape) (told : List ℕ → ℕ) (s : State) (w : World) (x : Mark) (rebuilt : Partitions) (stands : Stands wanted told s w) (can : CanStart x rebuilt s w) (there_first : HasFirstSlot w.starts) where
  abbrev begun : View
  begun = record { checkpoint = Started x; rebuilt = rebuilt }

  quiet : IsStill w.starts × IsStill w.ends
  quiet = subst (λ o. QuietMarks (soon_checkpoint o) w.starts w.ends) can.alone stands.quiet

  reads : MarksSay s.now.checkpoint (bytes_of (content w.starts)) (bytes_of (content w.ends))
  reads = subst (λ o. MarksSay (soon_or o s.now).checkpoint (bytes_of (content w.starts)) (bytes_of (content w.ends))) can.alone stands.reads

  abbrev change : Change
  change = mark_change (content w.starts) x

  good_now : IsGood wanted s w.log w.pages s.now
  good_now = stands.good s.now (subst (λ o. IsViewOf s.now o s.now) (sym can.alone) refl)

  stays : (st en : Option (List ℕ)) → MarksSay s.now.checkpoint (bytes_of (content w.starts)) (bytes_of en)
      → ((slot : ℕ) (y : Mark) → mark_at slot (bytes_of st) ≡ Some y → (mark_at slot (bytes_of (content w.starts)) ≡ Some y) ⊎ (y ≡ x))
      → ((slot : ℕ) (y : Mark) → slot ≢ slot_of x.number → mark_at slot (bytes_of (content w.starts)) ≡ Some y → mark_at slot (bytes_of st) ≡ Some y)
      → (mark_at (slot_of x.number) (bytes_of st) ≡ Some x → ⊥) → MarksSay s.now.checkpoint (bytes_of st) (bytes_of en)
  stays st en is known keeps not_x =
      say_stays s.now.checkpoint x (bytes_of (content w.starts)) (bytes_of st) (bytes_of en) can.next is
      (λ slot y there. elim (known slot y there) [
        | inl before ↦ before
        | inr same ↦
            let slot_is : slot ≡ slot_of x.number = sym (mark_in-some slot (bytes_in_slot slot (bytes_of st)) y there).1 ∙ ap (λ (z : Mark). slot_of z.number) same in
            absurd (not_x (ap (λ n. mark_at n (bytes_of st)) (sym slot_is) ∙ there ∙ ap (λ (z : Mark). Some z) same))
      ]) keeps

  which : (st en : Option (List ℕ)) → MarksSay s.now.checkpoint (bytes_of (content w.starts)) (bytes_of en)
      → ((slot : ℕ) (y : Mark) → mark_at slot (bytes_of st) ≡ Some y → (mark_at slot (bytes_of (content w.starts)) ≡ Some y) ⊎ (y ≡ x))
      → ((slot : ℕ) (y : Mark) → slot ≢ slot_of x.number → mark_at slot (bytes_of (content w.starts)) ≡ Some y → mark_at slot (bytes_of st) ≡ Some y)
      → ((mark_at (slot_of x.number) (bytes_of st) ≡ None) ⊎ ((y : Mark) × (mark_at (slot_of x.number) (bytes_of st) ≡ Some y)))
      → (view : View) × IsViewOf s.now (Some begun) view × MarksSay view.checkpoint (bytes_of st) (bytes_of en)
  which st en is known keeps (inl none) = (s.now, inl refl, stays st en is known keeps (λ there. let no : None ≡ Some x = sym none ∙ there in absurd cc))
  which st en is known keeps (inr some) = elim (known (slot_of x.number) some.0 some.1) [
    | inl before ↦ (
      s.now,
      inl refl,
      stays st en is known keeps (λ there.
          let same : Some some.0 ≡ Some x = sym some.1 ∙ there in
          let e : some.0 ≡ x = cc in
          let le = say_starts s.now.checkpoint (bytes_of (content w.starts)) (bytes_of en) is (slot_of x.number) some.0 before in
          let n = ap (λ (z : Mark). z.number) e in
          absurd (omega (arith, le, n, can.next))),
    )
    | inr same ↦ (begun, inr refl, say_begins s.now.checkpoint x (bytes_of (content w.starts)) (bytes_of st) (bytes_of en) can.next is known (some.1 ∙ ap (λ (z : Mark). Some z) same))
  ]

  pub write_start_step : Stands wanted told (next_state (WriteStart x rebuilt) s w) (next_world (WriteStart x rebuilt) s w)
  write_start_step = record {
    log = stands.log;
    ends = stands.ends;
    marks = λ st en leaves_st true_st leaves_en true_en.
        let is : MarksSay s.now.checkpoint (bytes_of (content w.starts)) (bytes_of en) =
        say_same s.now.checkpoint (bytes_of (content w.starts)) (bytes_of (content w.ends)) (bytes_of (content w.starts)) (bytes_of en) (λ slot. refl)
        (still_reads w.ends en quiet.1 leaves_en true_en) reads in
        let known = image_known x w.starts quiet.0 can.fits there_first st true_st in
        let keeps = image_keeps x w.starts quiet.0 can.fits there_first st leaves_st in
        which st en is known keeps (option_cases (mark_at (slot_of x.number) (bytes_of st)));
    reads = subst (λ (o : Option (List ℕ)). MarksSay (Started x) (bytes_of o) (bytes_of (content w.ends))) (sym (content_change w.starts change))
        (say_begins s.now.checkpoint x (bytes_of (content w.starts)) (bytes_of (changed change (content w.starts))) (bytes_of (content w.ends)) can.next reads
        (now_known x w.starts quiet.0 can.fits there_first) (mark_stands (content w.starts) x can.fits));
    quiet = quiet.1;
    good = λ view is. remark wanted s w.log w.pages s.now (Some begun) view (elim is [
      | inl now ↦ subst (λ (v : View). IsGood wanted s w.log w.pages v) (sym now) good_now
      | inr soon ↦ subst (λ (v : View). IsGood wanted s w.log w.pages v) (sym soon) (may_start wanted s w x rebuilt good_now can)
    ]);
    well = stands.well;
    newest = stands.newest;
    newest_is = stands.newest_is;
    said = stands.said;
    since_first = stands.since_first;
  }
