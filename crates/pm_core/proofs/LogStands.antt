-- A log whose frames hold a map is, alone on its disk, as a state of the disk machine says, and steps that go on with frames
-- which hold a map meet the machine's guards.
use Rattle.std.proofs.Common.{◌≡◌, inl, inr, ℕ, zero, suc, ◌<◌, List, [], ◌∷◌, ◌++◌, length, Option, Some, None}
use Rattle.std.proofs.Common.{refl, sym, ◌∙◌, ap, subst, arith, append_assoc}
use Rattle.std.specs.Prelude.{IsSome, is_some}
use Rattle.std.specs.FinMap.{empty}
use Rattle.pm_types.specs.declared.place.Place.{Place}
use Rattle.pm_types.specs.declared.shape.Shape.{Shape}
use Rattle.pm_types.specs.Shapes.{IsShape}
use Rattle.pm_types.proofs.PageSizeBounds.{page_size_bounds}
use Rattle.pm_frame.specs.Frames.{Frame}
use Rattle.pm_disk.specs.Files.{absent, at_change, bytes_of}
use Rattle.pm_disk.specs.Worlds.{World}
use Rattle.pm_records.specs.FirstRecords.{log_shape}
use Rattle.pm_records.specs.LogFiles.{Written, IsWritten}
use Rattle.pm_records.specs.LogSteps.{Step, CutTail, Append, Force, NextSegment, DropSegment, ForceSegment}
use Rattle.pm_records.specs.LogSteps.{step_end, step_world, next_written, frames_in}
use Rattle.pm_records.specs.Logs.{place, record_in, after_frames}
use Rattle.pm_records.specs.Records.{Record, Restart}
use Rattle.pm_records.proofs.RecordOf.{record_of-some}
use Rattle.pm_records.proofs.Runs.{option_cases, rises, after_frames-append}
use Rattle.pm_records.proofs.Writing.{CanAll as CanWriteAll}
use Rattle.pm_marks.specs.InForce.{NoStart}
use Rattle.pm_marks.specs.Slots.{mark_at}
use Rattle.pm_marks.proofs.SlotMarks.{mark_at-short}
use Rattle.pm_model.specs.Eval.{Pairs}
use Rattle.pm_pages.specs.Rows.{Partition}
use Rattle.pm_pages.specs.WellFormed.{IsWellFormed}
use Rattle.pm_core.specs.BasePages.{no_pages}
use Rattle.pm_core.specs.LogAlone.{IsHeld}
use Rattle.pm_core.specs.Machine.{CanAll, map_or}
use Rattle.pm_core.specs.Replays.{replayed, all_replayed}
use Rattle.pm_core.specs.Rounds.{on_log}
use Rattle.pm_core.specs.Stands.{page_high, IsGood, Stands}
use Rattle.pm_core.specs.States.{State, View, AllInGrammar, RestartIsFirst}
use Rattle.pm_core.proofs.MarkSteps.{quiet_marks}
use Rattle.pm_core.proofs.Starting.{restart_of}
use Rattle.pm_core.proofs.Replaying.{replayed-append, replayed-none}
use Rattle.pm_core.proofs.WithoutStart.{no_rows, none_counted, none_well_formed}
use Rattle.pm_core.proofs.LogOnly.{log_only}

-- ---- what frames that hold a map are

-- the first of them is a RESTART with their shape
held_first : (wanted : Shape) (frames : List Frame) (shape : Shape) (pairs : Pairs)
    → IsHeld wanted frames shape pairs → RestartIsFirst shape frames
held_first wanted [] shape pairs held = tt
held_first wanted (f ∷ fs) shape pairs held = restart_of wanted shape (record_in f) held.begins held.told

-- their shape is one that a store may have
pub held_shape : (wanted : Shape) (frames : List Frame) (shape : Shape) (pairs : Pairs)
    → 0 < length frames → IsHeld wanted frames shape pairs → IsShape shape
held_shape wanted [] shape pairs some held = absurd (omega (arith, some))
held_shape wanted (f ∷ fs) shape pairs some held =
    (record_of-some f.kind f.payload (Restart shape) (restart_of wanted shape (record_in f) held.begins held.told)).0

-- so it is where there are none, if the wanted one is
pub wanted_shape : (wanted : Shape) (frames : List Frame) (shape : Shape) (pairs : Pairs)
    → IsShape wanted → IsHeld wanted frames shape pairs → IsShape shape
wanted_shape wanted [] shape pairs sound held = subst IsShape (sym held.told) sound
wanted_shape wanted (f ∷ fs) shape pairs sound held = held_shape wanted (f ∷ fs) shape pairs (omega arith) held

-- a store's pages have bytes
pub sized : (shape : Shape) → IsShape shape → 0 < shape.page_size
sized shape sound = omega (arith, (page_size_bounds shape.page_size sound.page_size).0)

-- a prefix of them begins as they do
first_front : (shape : Shape) (xs ys : List Frame) → RestartIsFirst shape (xs ++ ys) → RestartIsFirst shape xs
first_front shape [] ys first = tt
first_front shape (x ∷ xs) ys first = first

-- a record that can be replayed is there
some_found : (shape : Shape) (found : Option Record) (pairs now : Pairs) → replayed shape found pairs ≡ Some now → IsSome found
some_found shape None pairs now is = absurd cc
some_found shape (Some found) pairs now is = refl

-- the map in between
front_replays : (shape : Shape) (xs ys : List Frame) (pairs now : Pairs) → all_replayed shape (xs ++ ys) (Some pairs) ≡ Some now
    → (mid : Pairs) × (all_replayed shape xs (Some pairs) ≡ Some mid) × (all_replayed shape ys (Some mid) ≡ Some now)
front_replays shape xs ys pairs now is = elim (option_cases (all_replayed shape xs (Some pairs))) [
  | inl none ↦
      let whole = replayed-append shape xs ys (Some pairs) ∙ ap (all_replayed shape ys) none ∙ replayed-none shape ys in
      let no : None ≡ Some now = sym whole ∙ is in absurd cc
  | inr some ↦ (some.0, some.1, ap (all_replayed shape ys) (sym some.1) ∙ sym (replayed-append shape xs ys (Some pairs)) ∙ is)
]

-- each is in its grammar
replays_well : (shape : Shape) (xs : List Frame) (pairs now : Pairs)
    → all_replayed shape xs (Some pairs) ≡ Some now → AllInGrammar xs
replays_well shape [] pairs now is = tt
replays_well shape (x ∷ xs) pairs now is =
    let one = front_replays shape (x ∷ []) xs pairs now is in
    (some_found shape (record_in x) pairs one.0 one.1, replays_well shape xs one.0 now one.2)

-- ---- the log as a state of the machine

-- the state of a log that is alone on its disk
abbrev pub state_of : Shape → Written → Place → Pairs → List Frame → Pairs → State
state_of shape s end start order pairs = record {
  shape = shape;
  low = 1;
  at = s.at;
  pending = s.pending;
  end = end;
  tail = s.tail;
  now = record { checkpoint = NoStart; rebuilt = no_pages };
  soon = None;
  files = no_pages;
  first = start;
  order = order;
  map = pairs;
}

-- no replies are counted: steps of the log say nothing
abbrev pub no_told : List ℕ → ℕ
no_told bytes = 0

-- What a log holds: its lasting frames the first map, and all that were written, with more after them, the other one.
pub record WrittenHolds (wanted shape : Shape) (s : Written) (more : List Frame) (start now : Pairs) : Type 0 where
  pub lasting : IsHeld wanted s.lasting shape start
  pub all : IsHeld wanted ((s.lasting ++ s.pending) ++ more) shape now

-- a file that isn't there has no bytes after any change
absent_at : (k : ℕ) → at_change absent k ≡ None
absent_at zero = refl
absent_at (suc k) = refl

module _ (wanted shape : Shape) (sound : IsShape shape) (world : World) (end : Place) (s : Written)
    (written : IsWritten world 1 (place 1 0) end s) (more : List Frame) (start now : Pairs)
    (holds : WrittenHolds wanted shape s more start now) where
  abbrev state : State
  state = state_of shape s end start [] start

  -- what follows the lasting frames can be replayed
  pub rest_replays : all_replayed shape (s.pending ++ more) (Some start) ≡ Some now
  rest_replays =
      ap (all_replayed shape (s.pending ++ more)) (sym holds.lasting.map)
      ∙ sym (replayed-append shape s.lasting (s.pending ++ more) (Some empty))
      ∙ ap (λ fs. all_replayed shape fs (Some empty)) (sym (append_assoc s.lasting s.pending more)) ∙ holds.all.map

  pub all_first : RestartIsFirst shape ((s.lasting ++ s.pending) ++ more)
  all_first = held_first wanted ((s.lasting ++ s.pending) ++ more) shape now holds.all

  no_marks : (slot : ℕ) → mark_at slot [] ≡ None
  no_marks slot = mark_at-short slot [] (omega arith)

  good : IsGood wanted state world.log (log_only world).pages state.now
  good = record {
    shaped = tt;
    rebuilt_lasts = refl;
    has_meta = λ part index some. absurd cc;
    bare = refl;
    pages_stand = record {
      kept = λ part index bytes none is. absurd cc;
      absent = λ part index none there. inl (λ k le.
          subst (λ (o : Option (List ℕ)). length (bytes_of o) < page_high shape.page_size index) (sym (absent_at k))
          (omega (arith, sized shape sound)));
    };
    calm = λ part. inl refl;
    based = empty;
    based_is = record {
      well_formed = λ part lt.
          subst (λ (pages : Partition). IsWellFormed shape part pages) (sym (none_counted part)) (none_well_formed shape part);
      is = no_rows shape.partitions;
    };
    frames = s.lasting;
    replay = written.log.leads;
    holds = holds.lasting.map;
    begins = tt;
    restarts = first_front shape (s.lasting ++ s.pending) more all_first;
    empty_wanted = λ none. holds.lasting.told ∙ ap (log_shape wanted) none;
  }

  pub log_stands : Stands wanted no_told state (log_only world)
  log_stands =
      let front = front_replays shape s.pending more start now rest_replays in
      record {
        log = written.log.files;
        ends = written.ends;
        marks = quiet_marks absent absent state.now refl refl (no_marks, no_marks);
        reads = (no_marks, no_marks);
        quiet = (inl refl, inl refl);
        good = λ view is. subst (λ (v : View). IsGood wanted state world.log (log_only world).pages v) (sym is) good;
        well = replays_well shape s.pending start front.0 front.1;
        newest = front.0;
        newest_is = front.1;
        said = omega arith;
        since_first = refl;
      }

-- ---- steps of the log meet the guards

-- a log that ends where it begins has no frame
none_before : (fs : List Frame) → after_frames (place 1 0) fs ≡ place 1 0 → fs ≡ []
none_before [] is = refl
none_before (f ∷ fs) is = absurd (elim (rises (place 1 0) (f ∷ fs)) [
  | inl lt ↦ omega (arith, lt, ap (λ (p : Place). p.seg) is)
  | inr there ↦ omega (arith, there.1, ap (λ (p : Place). p.off) is)
])

-- so the frame that follows an empty log is its first one
next_first : (shape : Shape) (lasting pending : List Frame) (f : Frame) (more : List Frame) → lasting ≡ [] → pending ≡ []
    → RestartIsFirst shape (lasting ++ (pending ++ f ∷ more)) → record_in f ≡ Some (Restart shape)
next_first shape [] [] f more none nothing first = first
next_first shape (x ∷ xs) pending f more none nothing first = absurd cc
next_first shape [] (x ∷ xs) f more none nothing first = absurd cc

module _ (shape : Shape) (start now : Pairs) where
  pub steps_can : (steps : List Step) (end : Place) (s : Written) (order : List Frame) (pairs : Pairs) (world : World)
      → CanWriteAll 0 steps end s → after_frames (place 1 0) s.lasting ≡ s.at
      → all_replayed shape (s.pending ++ frames_in steps) (Some pairs) ≡ Some now
      → RestartIsFirst shape (s.lasting ++ (s.pending ++ frames_in steps))
      → CanAll no_told (on_log steps) (state_of shape s end start order pairs) world
  steps_can [] end s order pairs world can leads replays first = tt
  steps_can (CutTail ∷ steps) end s order pairs world can leads replays first =
      (can.0, steps_can steps end (next_written CutTail s) order pairs (step_world CutTail end world) can.1 leads replays first)
  steps_can (Append f ∷ steps) end s order pairs world can leads replays first =
      let regrouped = append_assoc s.pending (f ∷ []) (frames_in steps) in
      let again : all_replayed shape ((s.pending ++ f ∷ []) ++ frames_in steps) (Some pairs) ≡ Some now =
      ap (λ fs. all_replayed shape fs (Some pairs)) regrouped ∙ replays in
      let with_it = front_replays shape (s.pending ++ f ∷ []) (frames_in steps) pairs now again in
      let without = front_replays shape s.pending (f ∷ []) pairs with_it.0 with_it.1 in (
        record {
          ready = can.0.0;
          open_segment = can.0.1;
          fits = can.0.2;
          inner = can.0.3;
          in_grammar = some_found shape (record_in f) without.0 with_it.0 without.2;
          not_full = ap is_some with_it.1;
          restart_first = λ at_first none.
              next_first shape s.lasting s.pending f (frames_in steps) (none_before s.lasting (leads ∙ at_first)) none first;
        },
        steps_can steps (step_end (Append f) end) (next_written (Append f) s) order pairs (step_world (Append f) end world)
            can.1 leads again (subst (λ fs. RestartIsFirst shape (s.lasting ++ fs)) (sym regrouped) first),
      )
  steps_can (Force ∷ steps) end s order pairs world can leads replays first =
      let front = front_replays shape s.pending (frames_in steps) pairs now replays in
      let there : map_or (all_replayed shape s.pending (Some pairs)) pairs ≡ front.0 = ap (λ o. map_or o pairs) front.1 in (
        can.0,
        steps_can steps end (next_written Force s) (order ++ s.pending)
            (map_or (all_replayed shape s.pending (Some pairs)) pairs) (step_world Force end world) can.1
            (after_frames-append (place 1 0) s.lasting s.pending ∙ ap (λ (p : Place). after_frames p s.pending) leads)
            (ap (λ p. all_replayed shape (frames_in steps) (Some p)) there ∙ front.2)
            (subst (RestartIsFirst shape) (sym (append_assoc s.lasting s.pending (frames_in steps))) first),
      )
  steps_can (NextSegment ∷ steps) end s order pairs world can leads replays first =
      let to = step_end NextSegment end in
      let next = next_written NextSegment s in
      (can.0, steps_can steps to next order pairs (step_world NextSegment end world) can.1 leads replays first)
  steps_can (DropSegment seg ∷ steps) end s order pairs world can leads replays first = absurd (omega (arith, can.0))
  steps_can (ForceSegment seg ∷ steps) end s order pairs world can leads replays first = absurd (omega (arith, can.0))
