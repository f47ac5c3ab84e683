-- A store in page frames that runs is checkpointed: whichever way its logged pages are named, its checkpoint may be made of those that stay in their frames, and it runs afterwards with the pages that its frames and files have then.
use Rattle.std.proofs.Common.{◌≡◌, ℕ, ◌+◌, ◌*◌, ◌^◌, ◌<◌, ◌≤◌, Bool, true, false, inl, inr, List, [], ◌∷◌, ◌++◌, length, map, Option, Some, None, refl, sym, ap, ◌∙◌, subst, arith, cond, nat_lt}
use Rattle.std.specs.Prelude.{◌&&◌, if◌then◌else◌, nat_le, slice_range, All, IsSome, is_some}
use Rattle.std.proofs.lemmas.Bool.{false≢true, ltb-true, le-leb, cases_lt}
use Rattle.std.proofs.lemmas.List.Elements.{All-head, All-tail}
use Rattle.std.proofs.lemmas.List.Sorted.{All-permutation}
use Rattle.pm_types.specs.declared.page_id.PageId.{PageId}
use Rattle.pm_types.specs.declared.shape.Mark.{Mark}
use Rattle.pm_types.specs.declared.shape.Shape.{Shape}
use Rattle.pm_types.specs.Ids.{page_id, part_of_id, index_of_id}
use Rattle.pm_disk.specs.Files.{File, Change, bytes_of, content}
use Rattle.pm_disk.specs.Files as files
use Rattle.pm_disk.specs.Images.{NothingPending}
use Rattle.pm_disk.specs.Worlds.{World, pages_in}
use Rattle.pm_model.specs.declared.line.Line.{Line}
use Rattle.pm_model.specs.Eval.{Pairs}
use Rattle.pm_records.proofs.Runs.{option_cases}
use Rattle.pm_segments.specs.Drops.{drop_before_steps}
use Rattle.pm_segments.specs.Appends.{grown}
use Rattle.pm_core.specs.BasePages.{Partitions, page_in_file}
use Rattle.pm_core.specs.Calls.{MakesPrefix, finish_steps}
use Rattle.pm_core.specs.Machine.{DiskStep, WritePage, CanAll, states, worlds}
use Rattle.pm_core.specs.PageLaws.{Grows}
use Rattle.pm_core.specs.PageSets.{has_index}
use Rattle.pm_core.specs.Rounds.{on_log}
use Rattle.pm_core.specs.States.{State}
use Rattle.pm_core.proofs.Ranges.{page_within}
use Rattle.pm_stripe.specs.Kept.{page_bytes}
use Rattle.pm_stripe.specs.Stripes.{kept, file_in}
use Rattle.pm_ckpt.specs.Checkpoints.{CanCheckpoint, IsStateAfter, opening_steps, whole_steps}
use Rattle.pm_ckpt.specs.Dirty.{IsNext}
use Rattle.pm_ckpt.specs.Marked.{mark_for, next_mark, number_after, log_after, begin_frame, kept_segment}
use Rattle.pm_ckpt.specs.Marked as marked
use Rattle.pm_ckpt.specs.Writes.{Writing, IsOrderOf, written_page, write_steps, named_of}
use Rattle.pm_ckpt.proofs.Home.{index_of_own}
use Rattle.pm_engine.specs.FrameDirty.{ListsDirty}
use Rattle.pm_engine.specs.Engines.{FrameRunning, NamesDirty, HasLastingLinesIn, running_in}
use Rattle.pm_engine.specs.FrameStores.{IsDirtyPage, pages_in_frames}
use Rattle.pm_engine.specs.LineChains.{NameTheSame}
use Rattle.pm_engine.specs.RunningStores.{number_of}
use Rattle.pm_engine.specs.RunningLines.{HasRun, CrashHoldsLines}
use Rattle.pm_engine.specs.RunningStores.{StoreState, HasSegmentsFor, mark_after, checkpointed, map_of}
use Rattle.pm_engine.proofs.CheckpointedLines.{checkpoint_has_run, between_crash}
use Rattle.pm_engine.proofs.CheckpointedStores.{all_segments_quiet, t_files_are}
use Rattle.pm_engine.proofs.FrameSteps.{cut}
use Rattle.pm_engine.proofs.GrownStores.{unlogged, lines_grown}
use Rattle.pm_engine.proofs.LineChains.{lines_renamed}
use Rattle.pm_engine.proofs.RisenNumbers.{mark_rises, number_rises}
use Rattle.pm_engine.proofs.RisenLogs.{grown_rises}
use Rattle.pm_engine.proofs.RunningCheckpoints.{may_checkpoint}
use Rattle.pm_engine.proofs.RunningForces.{pages_quiet}
use Rattle.pm_engine.proofs.RunningLines.{crash_further}

pub bool_same : (a b : Bool) → (a ≡ true → b ≡ true) → (b ≡ true → a ≡ true) → a ≡ b
bool_same true b to back = sym (to refl)
bool_same false true to back = back refl
bool_same false false to back = refl

-- a page that is there has a partition and an index of the store
pub cut_inside : (shape : Shape) (part index : ℕ) (o : Option (List ℕ)) (page : List ℕ) → cut shape part index o ≡ Some page → (part < shape.partitions) × (index < 2 ^ 32)
cut_inside shape part index o page e = by (nat_lt part shape.partitions) (nat_lt index (2 ^ 32)) refl refl e
  where
    by : (a b : Bool) → nat_lt part shape.partitions ≡ a → nat_lt index (2 ^ 32) ≡ b → cond (a && b) o None ≡ Some page → (part < shape.partitions) × (index < 2 ^ 32)
    by true true p i is = (ltb-true part shape.partitions p, ltb-true index (2 ^ 32) i)
    by true false p i is = absurd (let bad : None ≡ Some page = is in cc bad)
    by false b p i is = absurd (let bad : None ≡ Some page = is in cc bad)

-- and one of a higher index isn't there
pub cut_past : (shape : Shape) (part index : ℕ) (o : Option (List ℕ)) → 2 ^ 32 ≤ index → cut shape part index o ≡ None
cut_past shape part index o past = elim (option_cases (cut shape part index o)) [
  | inl none ↦ none
  | inr some ↦ absurd (omega (arith, past, (cut_inside shape part index o some.0 some.1).1))
]

-- ---- names

module _ (engine : FrameRunning) (names logged : List PageId) (bytes : Partitions) (dirty : ListsDirty engine.store names bytes) (named : NamesDirty engine.store logged) (wanted : Shape) (told : List ℕ → ℕ) (from : ℕ) (start : Pairs) (lines : List Line) (s : State) (w : World)
    (has : HasRun wanted told from start lines (running_in engine w logged) s w) where
  name_same : NameTheSame logged names
  name_same part index =
      bool_same (has_index part index names) (has_index part index logged)
      (λ is. let at = dirty.inside part index is in (named.each part index at.0 at.1).1 ((dirty.names_are.each part index at.0 at.1).0 is))
      (λ is.
      let there = has.runs.tracks.there part index is in
      let at = cut_inside engine.store.shape part index (page_bytes (file_in engine.store.stripe w) (kept engine.store.stripe engine.store.seat) (page_id part index)) there.bytes there.is in
      (dirty.names_are.each part index at.0 at.1).1 ((named.each part index at.0 at.1).0 is))

  pub names_run : HasRun wanted told from start lines (running_in engine w names) s w
  names_run = lines_renamed wanted told from start lines (running_in engine w logged) s w names has name_same dirty.names_are.once

-- ---- a checkpoint

module _ (before : FrameRunning) (names : List PageId) (bytes : Partitions) (dirty : ListsDirty before.store names bytes) (shape_is : before.ckpt.shape ≡ before.store.shape) (numbered : number_of before.ckpt.mark + 1 < 2 ^ 64) (segments : HasSegmentsFor before.log 1)
    (wanted : Shape) (told : List ℕ → ℕ) (from : ℕ) (start : Pairs) (lines : List Line) (s : State) (w : World) (has : HasRun wanted told from start lines (running_in before w names) s w) where
  abbrev store : StoreState
  store = running_in before w names

  abbrev mark : Mark
  mark = mark_after store

  few : number_after before.ckpt.mark < 2 ^ 64
  few = omega (arith, numbered, number_rises before.ckpt.mark)

  pub mark_is : mark_for before.ckpt before.log None ≡ mark
  mark_is = ap (λ (shape : Shape). next_mark shape before.ckpt.mark before.log None) shape_is

  named_at : (part index : ℕ) → named_of bytes names part index ≡ named_of store.pages names part index
  named_at part index = by (has_index part index names) refl
    where
      by : (b : Bool) → has_index part index names ≡ b → (let o : Option (List ℕ) = if b then bytes part index else None in o) ≡ (let o : Option (List ℕ) = if b then store.pages part index else None in o)
      by true is = dirty.bytes_are w part index is
      by false is = refl

  can_bytes : CanCheckpoint wanted told s before.log mark bytes names w
  can_bytes =
      let can = may_checkpoint wanted told store (map_of store) None s w has.runs refl few segments in
      record {
        stands = can.stands;
        ends = can.ends;
        is_open = can.is_open;
        begun = can.begun;
        rebuilt = can.rebuilt;
        guard = can.guard;
        rebuilds = λ part index. can.rebuilds part index ∙ sym (named_at part index);
      }

  pub may_make : CanCheckpoint wanted told s before.log (mark_for before.ckpt before.log None) bytes names w
  may_make = subst (λ (m : Mark). CanCheckpoint wanted told s before.log m bytes names w) (sym mark_is) can_bytes

  -- ---- its steps

  module _ (can : CanCheckpoint wanted told s before.log mark bytes names w) (xs : List Writing) (order : IsOrderOf names (map written_page xs)) (guards : CanAll told (whole_steps before.log mark can.rebuilt bytes xs s w) s w)
      (leaves : IsStateAfter before.log mark (states (whole_steps before.log mark can.rebuilt bytes xs s w) s w)) where
    -- the same checkpoint, by all of the store's pages
    abbrev can_pages : CanCheckpoint wanted told s store.log mark store.pages store.logged w
    can_pages = record {
      stands = can.stands;
      ends = can.ends;
      is_open = can.is_open;
      begun = can.begun;
      rebuilt = can.rebuilt;
      guard = can.guard;
      rebuilds = λ part index. can.rebuilds part index ∙ named_at part index;
    }

    abbrev whole : List DiskStep
    whole = whole_steps store.log mark can.rebuilt store.pages xs s w

    abbrev Named : PageId → Type 0
    Named page = has_index (part_of_id page) (index_of_id page) names ≡ true

    among : All Named (map written_page xs)
    among = All-permutation Named names (map written_page xs) order.same (index_of_own names)

    writes_same : (ys : List Writing) → All Named (map written_page ys) → write_steps bytes ys ≡ write_steps store.pages ys
    writes_same [] all = refl
    writes_same (y ∷ ys) all =
        let same = dirty.bytes_are w (part_of_id y.page) (index_of_id y.page) (All-head Named y.page (map written_page ys) all) in
        let rest = writes_same ys (All-tail Named y.page (map written_page ys) all) in
        λ i. WritePage y.page y.gap (bytes_of (same i)) ∷ rest i

    abbrev with_writes : List DiskStep → List DiskStep
    with_writes writes =
        let ending : List DiskStep = opening_steps store.log mark can.rebuilt ++ (writes ++ finish_steps mark (map written_page xs)) in
        let ended : World = worlds ending s w in
        ending ++ on_log (drop_before_steps (grown store.log (begin_frame mark)) (kept_segment mark) ended)

    whole_same : whole_steps before.log mark can.rebuilt bytes xs s w ≡ whole
    whole_same = ap with_writes (writes_same xs among)

    guards_same : CanAll told whole s w
    guards_same = subst (λ l. CanAll told l s w) whole_same guards

    leaves_same : IsStateAfter store.log mark (states whole s w)
    leaves_same = subst (λ l. IsStateAfter store.log mark (states l s w)) whole_same leaves

    abbrev t : State
    t = states whole s w

    abbrev v : World
    v = worlds whole s w

    then_runs : HasRun wanted told from start lines (checkpointed store) t v
    then_runs = checkpoint_has_run wanted told from start lines store s w has few segments can_pages xs guards_same leaves_same

    nothing_pending : NothingPending v
    nothing_pending = record {
      log = all_segments_quiet wanted told store (map_of store) None s w has.runs refl few segments can_pages xs guards_same leaves_same;
      pages = pages_quiet wanted told (checkpointed store) t v then_runs.runs;
      starts = then_runs.runs.log.quiet.starts;
      ends = then_runs.runs.log.quiet.ends;
    }

    crash_holds : (now : World) → MakesPrefix (whole_steps before.log mark can.rebuilt bytes xs s w) s w now → CrashHoldsLines (before.log.end.seg + 2) (number_of before.ckpt.mark + 1) wanted before.store.shape start lines now
    crash_holds now some =
        let next : StoreState = checkpointed store in
        let one : next.log.end.seg ≤ before.log.end.seg + 1 = grown_rises before.log (begin_frame mark) in
        crash_further (next.log.end.seg + 1) (number_of next.mark) (before.log.end.seg + 2) (number_of before.ckpt.mark + 1) wanted before.store.shape start lines now (omega (arith, one)) (mark_rises before.ckpt.mark)
        (between_crash wanted told from start lines lines store next s w now whole has guards_same then_runs (subst (λ l. MakesPrefix l s w now) whole_same some))

    -- ---- its pages

    base : (part : ℕ) → part < before.store.shape.partitions → Grows (store.pages part) (t.files part)
    base part inside =
        subst (λ (p : ℕ → Option (List ℕ)). Grows p (t.files part)) (λ i index. sym (then_runs.runs.tracks.clean part index inside refl) i) (then_runs.runs.grows part inside)

    module _ (after : FrameRunning) (now : World) (is : now ≡ v) (next : IsNext mark before.ckpt after.ckpt before.log after.log) (shape_stays : after.store.shape ≡ before.store.shape) (none_dirty : (id : PageId) → IsDirtyPage after.store id → ⊥)
        (as_files : (part index : ℕ) → part < before.store.shape.partitions → index < 2 ^ 32 → pages_in_frames after.store now part index ≡ page_in_file before.store.shape.page_size (pages_in now part) index) where
      abbrev pages : Partitions
      pages = pages_in_frames after.store now

      quiet : NothingPending now
      quiet = subst NothingPending (sym is) nothing_pending

      forced_is : (part : ℕ) → pages_in now part ≡ (now.pages part).forced
      forced_is part = ap (λ (cs : List Change). files.after cs (now.pages part).forced) (quiet.pages part)

      files_are : (part index : ℕ) → t.files part index ≡ page_in_file before.store.shape.page_size (pages_in now part) index
      files_are part index =
          t_files_are wanted told store (map_of store) None s w has.runs refl few segments can_pages xs guards_same leaves_same part index
          ∙ ap (λ (u : World). page_in_file before.store.shape.page_size (u.pages part).forced index) (sym is)
          ∙ ap (λ (file : Option (List ℕ)). page_in_file before.store.shape.page_size file index) (sym (forced_is part))

      page_now : (part index : ℕ) → part < before.store.shape.partitions → index < 2 ^ 32 → pages part index ≡ t.files part index
      page_now part index inside low = as_files part index inside low ∙ sym (files_are part index)

      page_past : (part index : ℕ) → 2 ^ 32 ≤ index → pages part index ≡ None
      page_past part index past = cut_past after.store.shape part index (page_bytes (file_in after.store.stripe now) (kept after.store.stripe after.store.seat) (page_id part index)) past

      first_there : (part index : ℕ) (page : List ℕ) → part < before.store.shape.partitions → t.files part index ≡ Some page → IsSome (pages part 0)
      first_there part index page inside there =
          let size = before.store.shape.page_size in
          let file = pages_in now part in
          let long = (page_within size index file page (sym (files_are part index) ∙ there)).0 in
          let fits : nat_le (0 * size + size) (length (bytes_of file)) ≡ true = le-leb (0 * size + size) (length (bytes_of file)) (omega (arith, long)) in
          let some : page_in_file size file 0 ≡ Some (slice_range (bytes_of file) (0 * size) (0 * size + size)) =
          ap (λ (b : Bool). let o : Option (List ℕ) = if b then Some (slice_range (bytes_of file) (0 * size) (0 * size + size)) else None in o) fits in
          ap is_some (as_files part 0 inside (omega arith) ∙ some)

      grows : (part : ℕ) → part < before.store.shape.partitions → Grows (store.pages part) (pages part)
      grows part inside = record {
        stays = λ index page there.
            let at = cut_inside before.store.shape part index (page_bytes (file_in before.store.stripe w) (kept before.store.stripe before.store.seat) (page_id part index)) page there in
            page_now part index inside at.1 ∙ (base part inside).stays index page there;
        comes = λ index none. elim (cases_lt index (2 ^ 32)) [
          | inl low ↦ elim ((base part inside).comes index none) [
            | inl still ↦ inl (page_now part index inside low ∙ still)
            | inr first ↦ inr first
          ]
          | inr past ↦ inl (page_past part index past)
        ];
      }

      within : (part : ℕ) → part < before.store.shape.partitions → Grows (pages part) (t.files part)
      within part inside = record {
        stays = λ index page there.
            let at = cut_inside after.store.shape part index (page_bytes (file_in after.store.stripe now) (kept after.store.stripe after.store.seat) (page_id part index)) page there in
            sym (page_now part index inside at.1) ∙ there;
        comes = λ index none. elim (cases_lt index (2 ^ 32)) [
          | inl low ↦ inl (sym (page_now part index inside low) ∙ none)
          | inr past ↦ elim (option_cases (t.files part index)) [
            | inl still ↦ inl still
            | inr some ↦ inr (first_there part index some.0 inside some.1)
          ]
        ];
      }

      log_is : after.log ≡ log_after before.log mark
      log_is = next.ends

      marked_is : after.ckpt.mark ≡ Some mark
      marked_is = ap (λ (k : marked.Kept). k.mark) next.kept

      then_store : unlogged (checkpointed store) pages ≡ running_in after now []
      then_store = λ i. record { shape = sym shape_stays i; pages = pages; logged = []; log = sym log_is i; mark = sym marked_is i }

      then_has : HasRun wanted told from start lines (running_in after now []) t now
      then_has =
          subst (λ (q : StoreState × World). HasRun wanted told from start lines q.0 t q.1) {x = (unlogged (checkpointed store) pages, v)} {y = (running_in after now [], now)} (λ i. (then_store i, sym is i))
          (lines_grown wanted told (checkpointed store) store.pages pages t v grows within from start lines then_runs)

      then_lasts : HasLastingLinesIn wanted told from start lines after now
      then_lasts = record {
        done = record {
          state = t;
          logged = [];
          names = record { once = tt; each = λ part index inside low. (λ is. absurd (false≢true is), λ is. absurd (none_dirty (page_id part index) is)) };
          has = then_has;
        };
        quiet = quiet;
      }

  -- ---- the same by the mark that is kept for it

  abbrev Leads : Mark → Type 0
  Leads m =
      (can : CanCheckpoint wanted told s before.log m bytes names w) (xs : List Writing) → IsOrderOf names (map written_page xs) → CanAll told (whole_steps before.log m can.rebuilt bytes xs s w) s w → IsStateAfter before.log m (states (whole_steps before.log m can.rebuilt bytes xs s w) s w)
      → (after : FrameRunning) (now : World) → now ≡ worlds (whole_steps before.log m can.rebuilt bytes xs s w) s w → IsNext m before.ckpt after.ckpt before.log after.log → after.store.shape ≡ before.store.shape → ((id : PageId) → IsDirtyPage after.store id → ⊥)
      → ((part index : ℕ) → part < before.store.shape.partitions → index < 2 ^ 32 → pages_in_frames after.store now part index ≡ page_in_file before.store.shape.page_size (pages_in now part) index)
      → HasLastingLinesIn wanted told from start lines after now

  pub leads : Leads (mark_for before.ckpt before.log None)
  leads = subst Leads (sym mark_is) (λ can xs order guards leaves after now is next shape none files.
      then_lasts can xs order guards leaves after now (is ∙ ap (λ l. worlds l s w) (whole_same can xs order guards leaves)) next shape none files)

  abbrev Holds : Mark → Type 0
  Holds m =
      (can : CanCheckpoint wanted told s before.log m bytes names w) (xs : List Writing) → IsOrderOf names (map written_page xs) → CanAll told (whole_steps before.log m can.rebuilt bytes xs s w) s w → IsStateAfter before.log m (states (whole_steps before.log m can.rebuilt bytes xs s w) s w)
      → (now : World) → MakesPrefix (whole_steps before.log m can.rebuilt bytes xs s w) s w now → CrashHoldsLines (before.log.end.seg + 2) (number_of before.ckpt.mark + 1) wanted before.store.shape start lines now

  pub holds : Holds (mark_for before.ckpt before.log None)
  holds = subst Holds (sym mark_is) (λ can xs order guards leaves now some. crash_holds can xs order guards leaves now some)
