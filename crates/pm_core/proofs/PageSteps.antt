-- Each step of the pages, and the end marker, keeps the disk as the machine's state says.
use Rattle.std.proofs.Common.{◌≡◌, ◌⊎◌, inl, inr, ℕ, zero, suc, ◌+◌, ◌*◌, ◌<◌, ◌≤◌, List, [], length, take, Option, Some, None, refl, sym, ◌∙◌, ap, subst, arith, true, false}
use Rattle.std.specs.Prelude.{◌≢◌, slice_get, slice_range, IsSome, is_some}
use Rattle.std.specs.Option.{option_or}
use Rattle.std.proofs.lemmas.Bool.{cases_eq, cases_lt}
use Rattle.pm_types.specs.declared.page_id.PageId.{PageId}
use Rattle.pm_types.specs.declared.shape.Mark.{Mark}
use Rattle.pm_types.specs.declared.shape.Shape.{Shape}
use Rattle.pm_types.specs.Ids.{part_of_id, index_of_id}
use Rattle.pm_disk.specs.Files.{File, Change, bytes_of, content, changed, after, at_change, with_change, all_forced, missing, gapped}
use Rattle.pm_disk.specs.Images.{Leaves, Lasting, KeepsRange}
use Rattle.pm_disk.specs.Worlds.{World, with_file, pages_in, page_at}
use Rattle.pm_disk.proofs.Families.{file_there, file_cases}
use Rattle.pm_disk.proofs.Files.{quiet_lasting, lasting_push, forced_change, at_change-last, content_change}
use Rattle.pm_disk.proofs.Gaps.{page_alone}
use Rattle.pm_records.proofs.Runs.{option_cases}
use Rattle.pm_marks.specs.Slots.{slot_of, mark_at}
use Rattle.pm_marks.specs.InForce.{Checkpoint, NoStart, Started, Ended}
use Rattle.pm_marks.specs.MarkWrites.{mark_change, HasFirstSlot}
use Rattle.pm_marks.proofs.SlotWrites.{mark_stands}
use Rattle.pm_core.specs.BasePages.{Partitions, no_pages, page_in_file, pages_of, laid_over}
use Rattle.pm_core.specs.States.{State, View, HavePairs}
use Rattle.pm_core.specs.Stands.{page_low, page_high, IsStill, IsInForce, AreUpTo, MarksSay, IsViewOf, soon_or, soon_checkpoint, QuietMarks, PagesStand, IsGood, Stands}
use Rattle.pm_core.specs.Machine.{WritePage, ForcePages, WriteEnd, CanWritePage, CanEnd, forced_pages, next_state, next_world}
use Rattle.pm_core.proofs.LeftPages.{have_pairs_grow, pages_grow, still_some}
use Rattle.pm_core.proofs.MarkSteps.{now_known, image_known, still_reads, in_force_same}
use Rattle.pm_core.proofs.Ranges.{page_own, page_within, page_there}

-- other page files, with the same pages that count
repage : (wanted : Shape) (s : State) (log pages new : ℕ → File) (view : View) (good : IsGood wanted s log pages view) → PagesStand s.shape.page_size s.files view.rebuilt new
    → ((part : ℕ) → ((new part).since ≡ []) ⊎ ((index : ℕ) × IsSome (view.rebuilt part index))) → IsGood wanted s log new view
repage wanted s log pages new view good stand calm = record {
  shaped = good.shaped;
  rebuilt_lasts = good.rebuilt_lasts;
  has_meta = good.has_meta;
  bare = good.bare;
  pages_stand = stand;
  calm = calm;
  based = good.based;
  based_is = good.based_is;
  frames = good.frames;
  replay = good.replay;
  holds = good.holds;
  begins = good.begins;
  restarts = good.restarts;
  empty_wanted = good.empty_wanted;
}

pages_step : (wanted : Shape) (told : List ℕ → ℕ) (s : State) (w : World) (new : ℕ → File) → Stands wanted told s w
    → ((view : View) → IsViewOf s.now s.soon view → (good : IsGood wanted s w.log w.pages view) → PagesStand s.shape.page_size s.files view.rebuilt new)
    → ((view : View) → IsViewOf s.now s.soon view → (good : IsGood wanted s w.log w.pages view) → (part : ℕ) → ((new part).since ≡ []) ⊎ ((index : ℕ) × IsSome (view.rebuilt part index)))
    → Stands wanted told s (record w { pages = new })
pages_step wanted told s w new stands each calm = record {
  log = stands.log;
  ends = stands.ends;
  marks = stands.marks;
  reads = stands.reads;
  quiet = stands.quiet;
  good = λ view is. repage wanted s w.log w.pages new view (stands.good view is) (each view is (stands.good view is)) (calm view is (stands.good view is));
  well = stands.well;
  newest = stands.newest;
  newest_is = stands.newest_is;
  said = stands.said;
  since_first = stands.since_first;
}

-- a page that is written leaves each other one
apart_pages : (size : ℕ) (file : Option (List ℕ)) (gap bytes : List ℕ) (index other : ℕ) → length bytes ≡ size → length gap ≡ missing (index * length bytes) file → other ≢ index
    → KeepsRange file (gapped file (index * length bytes) gap bytes) (page_low size other) (page_high size other)
apart_pages size file gap bytes index other sized reaches apart =
    subst (λ n. KeepsRange file (gapped file (index * length bytes) gap bytes) (page_low n other) (page_high n other)) sized (page_alone file gap bytes index other reaches apart)

last_long : (file : File) (low high : ℕ) → Lasting file low high → high ≤ length (bytes_of (content file))
last_long file low high lasting =
    subst (λ (o : Option (List ℕ)). high ≤ length (bytes_of o)) (at_change-last file (length file.since) (omega arith)) (lasting.long (length file.since) (omega arith))

pub write_page_step : (wanted : Shape) (told : List ℕ → ℕ) (s : State) (w : World) (page : PageId) (gap bytes : List ℕ) → Stands wanted told s w → CanWritePage page gap bytes s w
    → Stands wanted told (next_state (WritePage page gap bytes) s w) (next_world (WritePage page gap bytes) s w)
write_page_step wanted told s w page gap bytes stands can =
    let part = part_of_id page in
    let size = s.shape.page_size in
    let file = w.pages part in
    let c : Change = gapped (pages_in w part) (page_at page (length bytes)) gap bytes in
    let grown : File = with_change file c in
    let only : (view : View) → IsViewOf s.now s.soon view → view ≡ s.now = λ view is. subst (λ o. IsViewOf s.now o view) can.alone is in
    pages_step wanted told s w (with_file w.pages part grown) stands (λ view is good.
    let due : IsSome (view.rebuilt part (index_of_id page)) = subst (λ (v : View). IsSome (v.rebuilt part (index_of_id page))) (sym (only view is)) can.due in
    record {
      kept = λ p index b none there.
          let k = good.pages_stand.kept p index b none there in
          file_cases w.pages part grown (λ n f. n ≡ p → Lasting f (page_low size index) (page_high size index) × (page_in_file size f.forced index ≡ Some b))
          (λ here.
          let old : Lasting file (page_low size index) (page_high size index) = subst (λ n. Lasting (w.pages n) (page_low size index) (page_high size index)) (sym here) k.0 in
          let at : page_in_file size file.forced index ≡ Some b = ap (λ n. page_in_file size (w.pages n).forced index) here ∙ k.1 in
          let apart : index ≢ index_of_id page =
          λ same. let no : false ≡ true = sym (ap (λ o. is_some o) (ap (λ n. view.rebuilt n (index_of_id page)) here ∙ ap (view.rebuilt p) (sym same) ∙ none)) ∙ due in absurd cc in
          let long : page_high size index ≤ length (bytes_of (content file)) = last_long file (page_low size index) (page_high size index) old in
          let keeps = apart_pages size (content file) gap bytes (index_of_id page) index can.sized can.reaches apart in (
            lasting_push file c (page_low size index) (page_high size index) old (λ i le lt. keeps.apart i le lt (omega (arith, lt, long)))
                (omega (arith, long, keeps.no_shorter)) (λ i le lt. keeps.same i le lt (omega (arith, lt, long))),
            at,
          ))
          (λ n other here. (subst (λ m. Lasting (w.pages m) (page_low size index) (page_high size index)) (sym here) k.0, ap (λ m. page_in_file size (w.pages m).forced index) here ∙ k.1))
          p refl;
      absent = λ p index none there. elim (cases_eq p part) [
        | inl here ↦ inr (subst (λ n. IsSome (laid_over view.rebuilt s.files n 0)) (sym here) (good.has_meta part (index_of_id page) due))
        | inr other ↦
            subst (λ (f : File). ((k : ℕ) → k ≤ length f.since → length (bytes_of (at_change f k)) < page_high size index) ⊎ IsSome (laid_over view.rebuilt s.files p 0))
            (sym (file_there w.pages part p grown other)) (good.pages_stand.absent p index none there)
      ];
    })
    (λ view is good.
    let due : IsSome (view.rebuilt part (index_of_id page)) = subst (λ (v : View). IsSome (v.rebuilt part (index_of_id page))) (sym (only view is)) can.due in
    file_cases w.pages part grown (λ n f. (f.since ≡ []) ⊎ ((index : ℕ) × IsSome (view.rebuilt n index))) (inr (index_of_id page, due)) (λ n other. good.calm n))

pub force_pages_step : (wanted : Shape) (told : List ℕ → ℕ) (s : State) (w : World) (part : ℕ) → Stands wanted told s w → Stands wanted told (next_state (ForcePages part) s w) (next_world (ForcePages part) s w)
force_pages_step wanted told s w part stands =
    let size = s.shape.page_size in
    let file = w.pages part in
    let new : File = all_forced file in
    pages_step wanted told s w (with_file w.pages part new) stands (λ view is good. record {
      kept = λ p index b none there.
          let k = good.pages_stand.kept p index b none there in
          file_cases w.pages part new (λ n f. n ≡ p → Lasting f (page_low size index) (page_high size index) × (page_in_file size f.forced index ≡ Some b))
          (λ here.
          let old : Lasting file (page_low size index) (page_high size index) = subst (λ n. Lasting (w.pages n) (page_low size index) (page_high size index)) (sym here) k.0 in
          let at : page_in_file size file.forced index ≡ Some b = ap (λ n. page_in_file size (w.pages n).forced index) here ∙ k.1 in
          let last : at_change file (length file.since) ≡ content file = at_change-last file (length file.since) (omega arith) in
          let long : page_high size index ≤ length (bytes_of (content file)) = last_long file (page_low size index) (page_high size index) old in (
            quiet_lasting new (page_low size index) (page_high size index) refl long,
            page_own size index file.forced (content file) b at long
                (λ i le lt. ap (λ (o : Option (List ℕ)). slice_get (bytes_of o) i) (sym last) ∙ old.same (length file.since) (omega arith) i le lt),
          ))
          (λ n other here. (subst (λ m. Lasting (w.pages m) (page_low size index) (page_high size index)) (sym here) k.0, ap (λ m. page_in_file size (w.pages m).forced index) here ∙ k.1))
          p refl;
      absent = λ p index none there. elim (good.pages_stand.absent p index none there) [
        | inl short ↦ inl (file_cases w.pages part new (λ n f. n ≡ p → (k : ℕ) → k ≤ length f.since → length (bytes_of (at_change f k)) < page_high size index)
            (λ here. forced_change file (λ o. length (bytes_of o) < page_high size index)
            (subst (λ (o : Option (List ℕ)). length (bytes_of o) < page_high size index) (at_change-last file (length file.since) (omega arith))
            (subst (λ n. (k : ℕ) → k ≤ length (w.pages n).since → length (bytes_of (at_change (w.pages n) k)) < page_high size index) (sym here) short (length file.since) (omega arith))))
            (λ n other here. subst (λ m. (k : ℕ) → k ≤ length (w.pages m).since → length (bytes_of (at_change (w.pages m) k)) < page_high size index) (sym here) short)
            p refl)
        | inr meta ↦ inr meta
      ];
    })
    (λ view is good. file_cases w.pages part new (λ n f. (f.since ≡ []) ⊎ ((index : ℕ) × IsSome (view.rebuilt n index))) (inl refl) (λ n other. good.calm n))

-- a file with nothing pending is left as it is
pub quiet_leaves : (file : File) → Leaves file file.forced
quiet_leaves file = go file.forced refl
  where
    go : (o : Option (List ℕ)) → file.forced ≡ o → Leaves file o
    go None is = (0, omega arith, ap (λ (o : Option (List ℕ)). is_some o) is)
    go (Some bytes) is = record {
      was_there = (0, omega arith, ap (λ (o : Option (List ℕ)). is_some o) is);
      no_shorter = (0, omega arith, let e = ap (λ (o : Option (List ℕ)). length (bytes_of o)) is in omega (arith, e));
      no_longer = (0, omega arith, let e = ap (λ (o : Option (List ℕ)). length (bytes_of o)) is in omega (arith, e));
      kept = λ i lt below untouched. ap (λ (o : Option (List ℕ)). slice_get (bytes_of o) i) (sym is);
    }

-- with nothing pending the page files stand for their own pages
pub quiet_pages : (size : ℕ) (rebuilt : Partitions) (pages : ℕ → File) → ((part : ℕ) → (pages part).since ≡ []) → PagesStand size (pages_of size (λ part. (pages part).forced)) rebuilt pages
quiet_pages size rebuilt pages quiet = record {
  kept = λ part index b none there. (quiet_lasting (pages part) (page_low size index) (page_high size index) (quiet part) (page_within size index (pages part).forced b there).0, there);
  absent = λ part index none there. inl (λ k le.
      let file = pages part in
      subst (λ (o : Option (List ℕ)). length (bytes_of o) < page_high size index) (sym (forced_then file (quiet part) k)) (short index file.forced there));
}
  where
    forced_then : (file : File) → file.since ≡ [] → (k : ℕ) → at_change file k ≡ file.forced
    forced_then file q k = subst (λ (cs : List Change). after (take k cs) file.forced ≡ file.forced) (sym q) (none k)
      where
        none : (k : ℕ) → after (take k []) file.forced ≡ file.forced
        none zero = refl
        none (suc k) = refl

    short : (index : ℕ) (file : Option (List ℕ)) → page_in_file size file index ≡ None → length (bytes_of file) < page_high size index
    short index file none = elim (cases_lt (length (bytes_of file)) (page_high size index)) [
      | inl lt ↦ lt
      | inr le ↦ let no : None ≡ Some (slice_range (bytes_of file) (index * size) (index * size + size)) = sym none ∙ page_there size index file le in absurd cc
    ]

-- END is written.
module _ (wanted : Shape) (told : List ℕ → ℕ) (s : State) (w : World) (x : Mark) (stands : Stands wanted told s w) (can : CanEnd x s w) where
  abbrev files : Partitions
  files = forced_pages s w

  abbrev finished : View
  finished = record { checkpoint = Ended x; rebuilt = no_pages }

  abbrev ended : State
  ended = record s { soon = Some finished; files = files }

  old : IsGood wanted s w.log w.pages s.now
  old = stands.good s.now (subst (λ o. IsViewOf s.now o s.now) (sym can.alone) refl)

  all_quiet : (part : ℕ) → (w.pages part).since ≡ []
  all_quiet part = elim (old.calm part) [
    | inl quiet ↦ quiet
    | inr due ↦ can.quiet part due.0 due.1
  ]

  left_quiet : (part : ℕ) → Leaves (w.pages part) (w.pages part).forced
  left_quiet part = quiet_leaves (w.pages part)

  grown : HavePairs s.shape (laid_over s.now.rebuilt files) old.based
  grown = pages_grow s.shape.page_size s.files s.now.rebuilt w.pages (λ part. (w.pages part).forced) old.pages_stand left_quiet s.shape old.based old.based_is

  same_files : (part index : ℕ) (b : List ℕ) → laid_over s.now.rebuilt files part index ≡ Some b → files part index ≡ Some b
  same_files part index b is = elim (option_cases (s.now.rebuilt part index)) [
    | inl none ↦ sym (ap (λ o. option_or o (files part index)) none) ∙ is
    | inr some ↦
        let e : Some some.0 ≡ Some b = sym (ap (λ o. option_or o (files part index)) some.1) ∙ is in
        can.written part index some.0 some.1 ∙ e
  ]

  no_others : (part index : ℕ) → laid_over s.now.rebuilt files part index ≡ None → files part index ≡ None
  no_others part index is = elim (option_cases (s.now.rebuilt part index)) [
    | inl none ↦ sym (ap (λ o. option_or o (files part index)) none) ∙ is
    | inr some ↦ let no : None ≡ Some some.0 = sym is ∙ ap (λ o. option_or o (files part index)) some.1 in absurd cc
  ]

  alone_pairs : HavePairs s.shape (laid_over no_pages files) old.based
  alone_pairs =
      have_pairs_grow s.shape (laid_over s.now.rebuilt files) (laid_over no_pages files) old.based grown
      (λ part. record { stays = λ i page is. same_files part i page is; comes = λ i is. inl (no_others part i is) })

  metas : (part index : ℕ) → IsSome (s.now.rebuilt part index) → IsSome (laid_over s.now.rebuilt files part 0)
  metas part index some =
      still_some s.shape.page_size s.files s.now.rebuilt w.pages (λ p. (w.pages p).forced) old.pages_stand left_quiet part 0 (old.has_meta part index some)

  -- with the start marker alone, and with the end marker
  by : (checkpoint : Checkpoint) (rebuilt : Partitions) → checkpoint ≡ Started x → PagesStand s.shape.page_size files rebuilt w.pages
      → (good : IsGood wanted s w.log w.pages (record { checkpoint = checkpoint; rebuilt = rebuilt }))
      → HavePairs s.shape (laid_over rebuilt files) good.based → HavePairs s.shape (laid_over no_pages files) good.based
      → ((part index : ℕ) → IsSome (rebuilt part index) → IsSome (laid_over rebuilt files part 0))
      → IsGood wanted ended w.log w.pages (record { checkpoint = checkpoint; rebuilt = rebuilt }) × IsGood wanted ended w.log w.pages finished
  by NoStart rebuilt is stand good have have_alone meta = absurd cc
  by (Ended other) rebuilt is stand good have have_alone meta = absurd cc
  by (Started other) rebuilt is stand good have have_alone meta =
      let same : other ≡ x = cc in (
        record {
          shaped = good.shaped;
          rebuilt_lasts = good.rebuilt_lasts;
          has_meta = meta;
          bare = tt;
          pages_stand = stand;
          calm = λ part. inl (all_quiet part);
          based = good.based;
          based_is = have;
          frames = good.frames;
          replay = good.replay;
          holds = good.holds;
          begins = good.begins;
          restarts = tt;
          empty_wanted = tt;
        },
        subst (λ (m : Mark). IsGood wanted ended w.log w.pages (record { checkpoint = Ended m; rebuilt = no_pages })) same (record {
          shaped = good.shaped;
          rebuilt_lasts = refl;
          has_meta = λ part index some. let no : false ≡ true = some in absurd cc;
          bare = tt;
          pages_stand = quiet_pages s.shape.page_size no_pages w.pages all_quiet;
          calm = λ part. inl (all_quiet part);
          based = good.based;
          based_is = have_alone;
          frames = good.frames;
          replay = good.replay;
          holds = good.holds;
          begins = (good.begins.frames, good.begins.leads, good.begins.in_grammar);
          restarts = tt;
          empty_wanted = tt;
        }),
      )

  both : IsGood wanted ended w.log w.pages s.now × IsGood wanted ended w.log w.pages finished
  both = by s.now.checkpoint s.now.rebuilt can.runs (quiet_pages s.shape.page_size s.now.rebuilt w.pages all_quiet) old grown alone_pairs metas

  quiet : IsStill w.starts × IsStill w.ends
  quiet = subst (λ o. QuietMarks (soon_checkpoint o) w.starts w.ends) can.alone stands.quiet

  reads : MarksSay (Started x) (bytes_of (content w.starts)) (bytes_of (content w.ends))
  reads =
      subst (λ c. MarksSay c (bytes_of (content w.starts)) (bytes_of (content w.ends))) can.runs
      (subst (λ o. MarksSay (soon_or o s.now).checkpoint (bytes_of (content w.starts)) (bytes_of (content w.ends))) can.alone stands.reads)

  abbrev change : Change
  change = mark_change (content w.ends) x

  up_to : (en : List ℕ) → ((slot : ℕ) (y : Mark) → mark_at slot en ≡ Some y → (mark_at slot (bytes_of (content w.ends)) ≡ Some y) ⊎ (y ≡ x)) → AreUpTo x.number en
  up_to en known slot y there = elim (known slot y there) [
    | inl before ↦ reads.1 slot y before
    | inr same ↦ let e = ap (λ (z : Mark). z.number) same in omega (arith, e)
  ]

  running : (st en : List ℕ) → MarksSay (Started x) st en → (view : View) × IsViewOf s.now (Some finished) view × MarksSay view.checkpoint st en
  running st en say = (s.now, inl refl, subst (λ c. MarksSay c st en) (sym can.runs) say)

  which : (st en : List ℕ) → IsInForce x st → ((slot : ℕ) (y : Mark) → mark_at slot en ≡ Some y → (mark_at slot (bytes_of (content w.ends)) ≡ Some y) ⊎ (y ≡ x))
      → ((mark_at (slot_of x.number) en ≡ None) ⊎ ((y : Mark) × (mark_at (slot_of x.number) en ≡ Some y)))
      → (view : View) × IsViewOf s.now (Some finished) view × MarksSay view.checkpoint st en
  which st en force known (inl none) = running st en (force, up_to en known, λ there. let no : None ≡ Some x = sym none ∙ there in absurd cc)
  which st en force known (inr some) = elim (known (slot_of x.number) some.0 some.1) [
    | inl before ↦ running st en (
      force,
      up_to en known,
      λ there.
          let same : Some some.0 ≡ Some x = sym some.1 ∙ there in
          reads.2 (before ∙ same),
    )
    | inr same ↦ (finished, inr refl, (force, up_to en known, some.1 ∙ ap (λ (z : Mark). Some z) same))
  ]

  pub write_end_step : HasFirstSlot w.ends → Stands wanted told (next_state (WriteEnd x) s w) (next_world (WriteEnd x) s w)
  write_end_step there_first = record {
    log = stands.log;
    ends = stands.ends;
    marks = λ st en leaves_st true_st leaves_en true_en.
        which (bytes_of st) (bytes_of en) (in_force_same x (bytes_of (content w.starts)) (bytes_of st) (still_reads w.starts st quiet.0 leaves_st true_st) reads.0)
        (image_known x w.ends quiet.1 can.fits there_first en true_en)
        (option_cases (mark_at (slot_of x.number) (bytes_of en)));
    reads = subst (λ (o : Option (List ℕ)). MarksSay (Ended x) (bytes_of (content w.starts)) (bytes_of o)) (sym (content_change w.ends change))
        (reads.0, up_to (bytes_of (changed change (content w.ends))) (now_known x w.ends quiet.1 can.fits there_first), mark_stands (content w.ends) x can.fits);
    quiet = quiet.0;
    good = λ view is. elim is [
      | inl now ↦ subst (λ (v : View). IsGood wanted ended w.log w.pages v) (sym now) both.0
      | inr soon ↦ subst (λ (v : View). IsGood wanted ended w.log w.pages v) (sym soon) both.1
    ];
    well = stands.well;
    newest = stands.newest;
    newest_is = stands.newest_is;
    said = stands.said;
    since_first = stands.since_first;
  }
