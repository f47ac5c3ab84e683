-- What a restart makes of a sound store.
use Rattle.std.proofs.Common.{◌≡◌, inl, inr, ℕ, zero, suc, List, [], take, Option, Some, None, true, false, refl, sym, ◌∙◌, ap, subst, arith, Result}
use Rattle.std.specs.Prelude.{IfErr, IsErrOf, Err, IsSome}
use Rattle.std.proofs.lemmas.Option.{same_Some}
use Rattle.pm_types.specs.declared.fault.OpenFault.{OpenFault}
use Rattle.pm_types.specs.declared.fault.OpenFault.TheVariants as opening
use Rattle.pm_types.specs.declared.fault.StoreFault.{StoreFault}
use Rattle.pm_types.specs.declared.fault.StoreFault.TheVariants.{Failed, Memory, BadPage, BadRecord}
use Rattle.pm_types.specs.declared.page_id.PageId.{PageId}
use Rattle.pm_types.specs.declared.place.Place.{Place}
use Rattle.pm_types.specs.declared.shape.Mark.{Mark}
use Rattle.pm_types.specs.declared.shape.Shape.{Shape}
use Rattle.pm_frame.specs.Frames.{Frame}
use Rattle.pm_disk.specs.Files.{File, bytes_of, content}
use Rattle.pm_disk.proofs.Files.{quiet_content}
use Rattle.pm_disk.specs.Images.{Image, NothingPending}
use Rattle.pm_disk.specs.Moments.{History, AllMoments}
use Rattle.pm_disk.specs.Worlds.{World}
use Rattle.pm_disk.proofs.Chain.{joined, weaker}
use Rattle.pm_model.specs.Eval.{Pairs}
use Rattle.pm_records.specs.FirstRecords.{is_restart}
use Rattle.pm_records.specs.LogFiles.{contents}
use Rattle.pm_records.specs.LogSteps.{cut_steps, world_after}
use Rattle.pm_records.specs.Records.{Record, Logical, Snapshot, Delta, CpBegin, Restart, Seal}
use Rattle.pm_marks.specs.declared.marks.Marks.{Marks}
use Rattle.pm_marks.specs.InForce.{Checkpoint, NoStart, Started, Ended, marks_of, replay_of}
use Rattle.pm_core.specs.BasePages.{Partitions, no_pages, pages_of, laid_over, base_of, RebuiltAre}
use Rattle.pm_core.specs.PageLaws.{Grows}
use Rattle.pm_core.specs.Calls.{MakesPrefix}
use Rattle.pm_core.specs.Held.{in_force, store_shape}
use Rattle.pm_core.specs.LogAlone.{image_of}
use Rattle.pm_core.specs.Machine.{DiskStep, CanAll, states, worlds}
use Rattle.pm_core.specs.Prefixes.{KeepsPrefix, last_number}
use Rattle.pm_core.specs.Replays.{all_replayed}
use Rattle.pm_core.specs.Sound.{SoundImage}
use Rattle.pm_core.specs.Stands.{HasShape, MarksSay, QuietMarks, IsViewOf, soon_checkpoint, soon_or, Stands}
use Rattle.pm_core.specs.Starts.{CanBegin, appended}
use Rattle.pm_core.specs.States.{State, View}
use Rattle.pm_core.proofs.CrashLaw.{run_stands, law_of_call}
use Rattle.pm_core.proofs.Saying.{say_in_force}
use Rattle.pm_core.proofs.Starting.{stands_first}
use Rattle.pm_redo.specs.Ending.{BeginsSteps}
use Rattle.pm_redo.specs.FoundMarks.{replay_from}
use Rattle.pm_redo.specs.Pictures.{files_in}
use Rattle.pm_redo.specs.Rebuilding.{IsSame}
use Rattle.pm_redo.proofs.ForcedMarks.{cut_forced, marks_forced}
use Rattle.pm_redo.proofs.RestoringSteps.{rebuilds_once}
use Rattle.pm_redo.specs.Restoring.{shape_of, mark_of, LeavesStore, IsLeft, with_end, IsRestored, KeepsMarks, Restores, left_state, CrashHolds, RestoresWithin, RestoresAll}

-- ---- the state of a store that was left

shaped_of : (wanted shape : Shape) (checkpoint : Checkpoint) (frames : List Frame) → shape ≡ store_shape wanted checkpoint frames → HasShape shape checkpoint
shaped_of wanted shape NoStart frames is = tt
shaped_of wanted shape (Started mark) frames is = sym is
shaped_of wanted shape (Ended mark) frames is = sym is

module _ (wanted : Shape) (told : List ℕ → ℕ) (world : World) (shape : Shape) (pairs : Pairs) (can : CanBegin wanted told world shape pairs) where
  -- what is there of the pages' files is forced
  same_files : files_in world ≡ (λ part. (world.pages part).forced)
  same_files = λ i part. quiet_content (world.pages part) (can.quiet.pages part) i

  pub left_of : IsLeft wanted told (in_force (image_of world)) (left_state can) world
  left_of = record {
    stands = stands_first wanted told world shape pairs can;
    now = refl;
    alone = refl;
    rebuilt = can.sound.holds.rebuilt_are;
    shaped = shaped_of wanted shape (in_force (image_of world)) can.sound.holds.frames can.sound.holds.told;
    uncut = refl;
    ends = record { frames = can.sound.holds.frames; is_log = can.sound.holds.log; ends = refl };
    at_end = refl;
    nothing_pending = refl;
    files = ap (pages_of shape.page_size) (sym same_files);
  }

-- the base pages of a checkpoint and of the one with its end marker
grown : (checkpoint : Checkpoint) (s : State) (old new : World) (rebuilt : Partitions) → HasShape s.shape checkpoint → RebuiltAre checkpoint (contents old.log) s.now.rebuilt → RebuiltAre checkpoint (contents old.log) rebuilt
    → s.files ≡ pages_of s.shape.page_size (files_in old) → ((part : ℕ) → Grows (laid_over s.now.rebuilt s.files part) (pages_of s.shape.page_size (files_in new) part)) → (part : ℕ)
    → Grows (base_of checkpoint rebuilt (files_in old) part) (base_of (with_end checkpoint) no_pages (files_in new) part)
grown NoStart s old new rebuilt shaped one other files grows part = record { stays = λ index bytes is. is; comes = λ index is. inl refl }
grown (Started mark) s old new rebuilt shaped one other files grows part =
    let same = rebuilds_once mark (contents old.log) s.now.rebuilt rebuilt one other in
    subst (λ (shape : Shape). Grows (laid_over rebuilt (pages_of shape.page_size (files_in old)) part) (laid_over no_pages (pages_of shape.page_size (files_in new)) part)) (sym shaped)
    (subst (λ (r : Partitions). Grows (laid_over r (pages_of s.shape.page_size (files_in old)) part) (pages_of s.shape.page_size (files_in new) part)) same
    (subst (λ (f : Partitions). Grows (laid_over s.now.rebuilt f part) (pages_of s.shape.page_size (files_in new) part)) files (grows part)))
grown (Ended mark) s old new rebuilt shaped one other files grows part =
    subst (λ (shape : Shape). Grows (laid_over rebuilt (pages_of shape.page_size (files_in old)) part) (laid_over no_pages (pages_of shape.page_size (files_in new)) part)) (sym shaped)
    (subst (λ (r : Partitions). Grows (laid_over r (pages_of s.shape.page_size (files_in old)) part) (pages_of s.shape.page_size (files_in new) part)) (one ∙ sym other)
    (subst (λ (f : Partitions). Grows (laid_over s.now.rebuilt f part) (pages_of s.shape.page_size (files_in new) part)) files (grows part)))

no_first : (count : ℕ) → take {A = Frame} count [] ≡ []
no_first zero = refl
no_first (suc count) = refl

-- whatever a crash leaves of such steps holds what the store held
module _ (wanted : Shape) (told : List ℕ → ℕ) (shape : Shape) (pairs : Pairs) (old new : History) (can : CanBegin wanted told old.world shape pairs) where
  abbrev s : State
  s = left_state can

  still_holds : (order : List Frame) (image : Image) → order ≡ [] → KeepsPrefix wanted shape pairs order 0 image → SoundImage wanted image shape pairs
  still_holds order image none keeps =
      let same : Some pairs ≡ Some keeps.map =
      ap (λ fs. all_replayed shape fs (Some pairs)) (sym (ap (take keeps.count) none ∙ no_first keeps.count)) ∙ keeps.is in
      subst (SoundImage wanted image shape) (sym (same_Some pairs keeps.map same)) keeps.sound

  pub crash_holds : BeginsSteps told s old new → AllMoments old new (CrashHolds wanted shape pairs)
  crash_holds begun =
      weaker old new (MakesPrefix begun.steps s old.world) (CrashHolds wanted shape pairs)
      (λ w some image leaves honest.
      still_holds (appended (states begun.steps s old.world)) image begun.added
      (law_of_call wanted told s old.world begun.steps (left_of wanted told old.world shape pairs can).stands begun.can w some image leaves honest))
      begun.moments

  pub restores_within : BeginsSteps told s old new → RestoresWithin wanted told shape pairs s old new
  restores_within begun = record { begun = begun; crash = crash_holds begun }

  -- the log, the pages and the markers are all forced
  all_quiet : (made : Restores told (in_force (image_of old.world)) s old new) → Stands wanted told (states made.steps s old.world) new.world → NothingPending new.world
  all_quiet made stands =
      let t = states made.steps s old.world in
      let view : soon_or t.soon t.now ≡ record { checkpoint = with_end (in_force (image_of old.world)); rebuilt = no_pages } =
      ap (λ o. soon_or o t.now) made.restored.alone ∙ made.restored.now in
      let marks = marks_forced (in_force (image_of old.world)) old.world new.world can.quiet.starts can.quiet.ends made.marks
      (subst (λ (o : Option View). QuietMarks (soon_checkpoint o) new.world.starts new.world.ends) made.restored.alone stands.quiet)
      (subst (λ (v : View). MarksSay v.checkpoint (bytes_of (content new.world.starts)) (bytes_of (content new.world.ends))) view stands.reads) in
      let good = stands.good t.now (subst (λ o. IsViewOf t.now o t.now) (sym made.restored.alone) refl) in
      record {
        log = λ seg. ap (λ (log : ℕ → File). (log seg).since) made.log ∙ cut_forced s.at old.world can.quiet.log seg;
        pages = λ part. elim (good.calm part) [
          | inl none ↦ none
          | inr there ↦ let some : IsSome (no_pages part there.0) = subst (λ (v : View). IsSome (v.rebuilt part there.0)) made.restored.now there.1 in absurd cc
        ];
        starts = marks.0;
        ends = marks.1;
      }

  pub restores_all : Restores told (in_force (image_of old.world)) s old new → RestoresAll wanted told (in_force (image_of old.world)) shape pairs s old new
  restores_all made =
      let t = states made.steps s old.world in
      let stands : Stands wanted told t new.world =
      subst (λ (w : World). Stands wanted told t w) (sym made.is) (run_stands wanted told made.steps s old.world (left_of wanted told old.world shape pairs can).stands made.can) in
      let starts = bytes_of (content new.world.starts) in
      let ends = bytes_of (content new.world.ends) in
      let view : soon_or t.soon t.now ≡ record { checkpoint = with_end (in_force (image_of old.world)); rebuilt = no_pages } =
      ap (λ o. soon_or o t.now) made.restored.alone ∙ made.restored.now in
      record {
        made = made;
        stands = stands;
        quiet = all_quiet made stands;
        ended = say_in_force (with_end (in_force (image_of old.world))) starts ends (subst (λ (v : View). MarksSay v.checkpoint starts ends) view stands.reads);
        pages = λ rebuilt is part.
            let left = left_of wanted told old.world shape pairs can in
            grown (in_force (image_of old.world)) s old.world new.world rebuilt left.shaped left.rebuilt is left.files made.pages part;
      }

-- ---- after calls that only read

module _ (told : List ℕ → ℕ) (s : State) (old mid new : History) (same : mid.world ≡ old.world) (first : AllMoments old mid (IsSame old.world)) where
  moments_after : (steps : List DiskStep) → AllMoments mid new (MakesPrefix steps s mid.world) → AllMoments old new (MakesPrefix steps s old.world)
  moments_after steps rest =
      joined old mid new (MakesPrefix steps s old.world)
      (weaker old mid (IsSame old.world) (MakesPrefix steps s old.world) (λ w is. (0, omega arith, is)) first)
      (subst (λ (w : World). AllMoments mid new (MakesPrefix steps s w)) same rest)

  pub begins_after : BeginsSteps told s mid new → BeginsSteps told s old new
  begins_after begun = record {
    steps = begun.steps;
    can = subst (λ (w : World). CanAll told begun.steps s w) same begun.can;
    moments = moments_after begun.steps begun.moments;
    added = ap (λ (w : World). appended (states begun.steps s w)) (sym same) ∙ begun.added;
    number = ap (λ (w : World). last_number (states begun.steps s w)) (sym same) ∙ begun.number;
  }

  pub restores_after : (checkpoint : Checkpoint) → Restores told checkpoint s mid new → Restores told checkpoint s old new
  restores_after checkpoint made = record {
    log = made.log ∙ ap (λ (w : World). (world_after cut_steps s.at w).log) same;
    steps = made.steps;
    can = subst (λ (w : World). CanAll told made.steps s w) same made.can;
    moments = moments_after made.steps made.moments;
    is = made.is ∙ ap (worlds made.steps s) same;
    restored = subst (λ (w : World). IsRestored checkpoint s (states made.steps s w)) same made.restored;
    marks = subst (λ (w : World). KeepsMarks checkpoint w new.world) same made.marks;
    pages = made.pages;
  }

-- ---- what was read

pub no_restart : (found : Option Record) → shape_of found ≡ None → is_restart found ≡ false
no_restart None is = refl
no_restart (Some (Logical op cache key value)) is = refl
no_restart (Some (Snapshot page bytes)) is = refl
no_restart (Some (Delta page ranges)) is = refl
no_restart (Some (CpBegin number replay)) is = refl
no_restart (Some (Restart shape)) is = let both : Some shape ≡ None = is in absurd cc
no_restart (Some Seal) is = refl

pub is_ended : (checkpoint : Checkpoint) (marks : Marks) (mark : Mark) → marks ≡ marks_of checkpoint → marks.start ≡ Some mark → marks.ended ≡ true → checkpoint ≡ Ended mark
is_ended NoStart marks mark is started ended = let both : None ≡ Some mark = ap (λ (m : Marks). m.start) (sym is) ∙ started in absurd cc
is_ended (Started other) marks mark is started ended = let both : false ≡ true = ap (λ (m : Marks). m.ended) (sym is) ∙ ended in absurd cc
is_ended (Ended other) marks mark is started ended = ap Ended (same_Some other mark (ap (λ (m : Marks). m.start) (sym is) ∙ started))

pub no_start : (checkpoint : Checkpoint) (marks : Marks) → marks ≡ marks_of checkpoint → marks.start ≡ None → checkpoint ≡ NoStart
no_start NoStart marks is none = refl
no_start (Started mark) marks is none = let both : Some mark ≡ None = ap (λ (m : Marks). m.start) (sym is) ∙ none in absurd cc
no_start (Ended mark) marks is none = let both : Some mark ≡ None = ap (λ (m : Marks). m.start) (sym is) ∙ none in absurd cc

pub start_marks : (checkpoint : Checkpoint) (marks : Marks) → marks ≡ marks_of checkpoint → marks.start ≡ mark_of checkpoint
start_marks NoStart marks is = ap (λ (m : Marks). m.start) is
start_marks (Started mark) marks is = ap (λ (m : Marks). m.start) is
start_marks (Ended mark) marks is = ap (λ (m : Marks). m.start) is

pub replay_marks : (checkpoint : Checkpoint) (marks : Marks) → marks ≡ marks_of checkpoint → replay_from marks ≡ replay_of checkpoint
replay_marks NoStart marks is = ap replay_from is
replay_marks (Started mark) marks is = ap replay_from is
replay_marks (Ended mark) marks is = ap replay_from is

-- ---- faults

leaves : (old now : World) (fault : StoreFault) → ((at : Place) → fault ≡ BadRecord at → now ≡ old) → ((page : PageId) → fault ≡ BadPage page → ⊥) → LeavesStore old now (opening.Store fault)
leaves old now Failed same no_page = tt
leaves old now (Memory lack) same no_page = tt
leaves old now (BadPage page) same no_page = absurd (no_page page refl)
leaves old now (BadRecord at) same no_page = same at refl

pub leaves_store : {T : Type 0} (old now : World) (result : Result T OpenFault) (fault : StoreFault) (out : OpenFault) → result ≡ Err out → out ≡ opening.Store fault
    → ((at : Place) → fault ≡ BadRecord at → now ≡ old) → ((page : PageId) → fault ≡ BadPage page → ⊥) → IfErr result (LeavesStore old now)
leaves_store {T} old now result fault out is gives same no_page =
    subst (λ (r : Result T OpenFault). IfErr r (LeavesStore old now)) (sym is) (subst (LeavesStore old now) (sym gives) (leaves old now fault same no_page))

-- a fault names one place
pub bad_place : {T : Type 0} (x y : Place) → IsErrOf {T = T} {E = StoreFault} (Err (BadRecord x)) (BadRecord y) → x ≡ y
bad_place x y is = cc

pub fault_is : {T : Type 0} (result : Result T StoreFault) (fault x : StoreFault) → result ≡ Err fault → fault ≡ x → IsErrOf {T = T} {E = StoreFault} result x
fault_is {T} result fault x is same = is ∙ ap (λ (f : StoreFault). let r : Result T StoreFault = Err f in r) same
