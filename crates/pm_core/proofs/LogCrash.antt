-- What a crash leaves of a log that holds a map, while steps of the log are made: a prefix of its frames, whatever markers and
-- pages there are. It is the law of crashes of one call, `a_call_leaves_a_prefix`, over the disk without them.
use Rattle.std.proofs.Common.{◌≡◌, ℕ, ◌+◌, ◌≤◌, List, [], ◌∷◌, ◌++◌, length, take, Some}
use Rattle.std.proofs.Common.{sym, ◌∙◌, ap, subst, arith, append_assoc, append-nil}
use Rattle.std.specs.FinMap.{empty}
use Rattle.pm_types.specs.declared.place.Place.{Place}
use Rattle.pm_types.specs.declared.shape.Shape.{Shape}
use Rattle.pm_types.specs.Shapes.{IsShape}
use Rattle.pm_frame.specs.Frames.{Frame}
use Rattle.pm_disk.specs.Images.{Image, LeavesAll}
use Rattle.pm_disk.specs.Worlds.{World}
use Rattle.pm_records.specs.LogFiles.{Written, IsWritten}
use Rattle.pm_records.specs.LogSteps.{Step, CutTail, Append, Force, NextSegment, DropSegment, ForceSegment}
use Rattle.pm_records.specs.LogSteps.{step_world, DoesPrefix, frames_in}
use Rattle.pm_records.specs.Logs.{place}
use Rattle.pm_records.proofs.Writing.{CanAll as CanWriteAll}
use Rattle.pm_model.specs.Eval.{Pairs}
use Rattle.pm_core.specs.LogAlone.{HasTrueFrames, Holds}
use Rattle.pm_core.specs.Machine.{log_state, states}
use Rattle.pm_core.specs.Replays.{all_replayed}
use Rattle.pm_core.specs.Rounds.{on_log}
use Rattle.pm_core.specs.Starts.{appended}
use Rattle.pm_core.specs.States.{State, RestartIsFirst}
use Rattle.pm_core.proofs.CrashLaw.{law_of_call}
use Rattle.pm_core.proofs.LogCalls.{prefix}
use Rattle.pm_core.proofs.Replaying.{replayed-append, take_past}
use Rattle.pm_core.proofs.WithoutStart.{alone_exactly}
use Rattle.pm_core.proofs.LogOnly.{log_only, image_only, prefix_only, leaves_only, true_only, alone_only, holds_only}
use Rattle.pm_core.proofs.LogStands.{WrittenHolds, sized, state_of, no_told, log_stands, steps_can, rest_replays, all_first}

-- what steps of the log append, after what was appended before
appended_after : (steps : List Step) (s : State) (world : World)
    → appended (states (on_log steps) s world) ≡ appended s ++ frames_in steps
appended_after [] s world = sym (append-nil (appended s))
appended_after (CutTail ∷ steps) s world = appended_after steps (log_state CutTail s) (step_world CutTail s.end world)
appended_after (Append f ∷ steps) s world =
    appended_after steps (log_state (Append f) s) (step_world (Append f) s.end world)
    ∙ ap (λ l. l ++ frames_in steps) (sym (append_assoc s.order s.pending (f ∷ [])))
    ∙ append_assoc (appended s) (f ∷ []) (frames_in steps)
appended_after (Force ∷ steps) s world =
    appended_after steps (log_state Force s) (step_world Force s.end world)
    ∙ ap (λ l. l ++ frames_in steps) (append-nil (appended s))
appended_after (NextSegment ∷ steps) s world =
    appended_after steps (log_state NextSegment s) (step_world NextSegment s.end world)
appended_after (DropSegment seg ∷ steps) s world =
    appended_after steps (log_state (DropSegment seg) s) (step_world (DropSegment seg) s.end world)
appended_after (ForceSegment seg ∷ steps) s world =
    appended_after steps (log_state (ForceSegment seg) s) (step_world (ForceSegment seg) s.end world)

-- what a crash left holds the map of a prefix of these frames, which has at least so many of them
pub record LeavesFrames (wanted shape : Shape) (frames : List Frame) (lasting : ℕ) (image : Image) : Type 0 where
  pub pairs : Pairs
  pub holds : Holds wanted image shape pairs
  pub count : ℕ
  pub has : lasting ≤ count
  pub is : all_replayed shape (take count frames) (Some empty) ≡ Some pairs

module _ (wanted shape : Shape) (sound : IsShape shape) (old : World) (end : Place) (s : Written)
    (written : IsWritten old 1 (place 1 0) end s) (steps : List Step) (can : CanWriteAll 0 steps end s)
    (start now : Pairs) (holds : WrittenHolds wanted shape s (frames_in steps) start now) where
  abbrev state : State
  state = state_of shape s end start [] start

  -- At each moment among the steps a crash leaves a prefix of the frames that has all that were lasting.
  pub crash_leaves : (later : World) → DoesPrefix steps end old later
      → (image : Image) → LeavesAll later image → HasTrueFrames later image
      → LeavesFrames wanted shape ((s.lasting ++ s.pending) ++ frames_in steps) (length s.lasting) image
  crash_leaves later some image leaves honest =
      let added = frames_in steps in
      let all = append_assoc s.lasting s.pending added in
      let stands = log_stands wanted shape sound old end s written added start now holds in
      let replays = rest_replays wanted shape sound old end s written added start now holds in
      let begins = subst (RestartIsFirst shape) all (all_first wanted shape sound old end s written added start now holds) in
      let guards = steps_can shape start now steps end s [] start (log_only old) can written.log.leads.to replays begins in
      let makes = prefix steps state (log_only old) (log_only later) (prefix_only steps end old later some) in
      let keeps = law_of_call wanted no_told state (log_only old) (on_log steps) stands guards (log_only later) makes
      (image_only image) (leaves_only later image leaves) (true_only later image honest) in
      let alone = alone_only shape.page_size image (sized shape sound) in
      let exactly = alone_exactly wanted (image_only image) shape keeps.map alone in
      let more : List Frame = s.pending ++ added in
      record {
        pairs = keeps.map;
        holds = holds_only wanted image shape keeps.map (exactly.0 keeps.sound);
        count = length s.lasting + keeps.count;
        has = omega arith;
        is = ap (λ fs. all_replayed shape (take (length s.lasting + keeps.count) fs) (Some empty)) all
            ∙ ap (λ fs. all_replayed shape fs (Some empty)) (take_past s.lasting more keeps.count)
            ∙ replayed-append shape s.lasting (take keeps.count more) (Some empty)
            ∙ ap (all_replayed shape (take keeps.count more)) holds.lasting.map
            ∙ ap (λ fs. all_replayed shape (take keeps.count fs) (Some start)) (sym (appended_after steps state (log_only old)))
            ∙ keeps.is;
      }
