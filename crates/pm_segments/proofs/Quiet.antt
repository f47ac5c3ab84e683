-- An append leaves changes that aren't forced in the segment alone in which the log ends then.
use Rattle.std.proofs.Common.{◌≡◌, ◌⊎◌, inl, inr, List, [], ◌∷◌, ◌++◌, length, sym, ap, subst, Bool}
use Rattle.std.specs.Prelude.{if◌then◌else◌}
use Rattle.pm_types.specs.declared.place.Place.{Place}
use Rattle.pm_frame.specs.Frames.{Frame}
use Rattle.pm_disk.specs.Worlds.{World, log_forced}
use Rattle.pm_records.specs.LogFiles.{IsQuietBut}
use Rattle.pm_records.specs.LogSteps.{Step, Append, NextSegment, step_end, step_world, written, end_after, world_after}
use Rattle.pm_records.specs.Logs.{seal_frame}
use Rattle.pm_records.proofs.QuietLog.{changed_quiet, forced_quiet}
use Rattle.pm_records.proofs.Runs.{bool_cases}
use Rattle.pm_segments.specs.Appends.{can_seal, seal_steps, enter_steps, roll_steps, append_steps}
use Rattle.pm_segments.specs.Ends.{LogEnd, has_room}

-- a roll, and the record after it
rolled_quiet : (end : Place) (frame : Frame) (world : World) → IsQuietBut world end.seg → (first : List Step) → (first ≡ []) ⊎ (first ≡ Append seal_frame ∷ [])
    → IsQuietBut (world_after ((first ++ enter_steps) ++ Append frame ∷ []) end world) (end_after ((first ++ enter_steps) ++ Append frame ∷ []) end).seg
rolled_quiet end frame world quiet first which = elim which [
  | inl none ↦ subst (λ steps. IsQuietBut (world_after ((steps ++ enter_steps) ++ Append frame ∷ []) end world) (end_after ((steps ++ enter_steps) ++ Append frame ∷ []) end).seg) (sym none)
      (entered end world quiet)
  | inr one ↦ subst (λ steps. IsQuietBut (world_after ((steps ++ enter_steps) ++ Append frame ∷ []) end world) (end_after ((steps ++ enter_steps) ++ Append frame ∷ []) end).seg) (sym one)
      (entered (step_end (Append seal_frame) end) (written end seal_frame world) (changed_quiet end.seg _ world quiet))
]
  where
    entered : (at : Place) (w : World) → IsQuietBut w at.seg → IsQuietBut (world_after (enter_steps ++ Append frame ∷ []) at w) (end_after (enter_steps ++ Append frame ∷ []) at).seg
    entered at w still =
        let next : Place = step_end NextSegment at in
        let forced = log_forced at.seg w in
        let cut = step_world NextSegment at forced in
        let none = forced_quiet at.seg w still in
        changed_quiet next.seg _ (log_forced next.seg cut)
        (λ n apart. forced_quiet next.seg cut (changed_quiet next.seg _ forced (λ m off. none m)) n)

-- an append leaves changes in the segment alone in which the log ends then
pub append_quiet : (log : LogEnd) (frame : Frame) (world : World) → IsQuietBut world log.end.seg → IsQuietBut (world_after (append_steps log frame) log.end world) (end_after (append_steps log frame) log.end).seg
append_quiet log frame world quiet = elim (bool_cases (has_room log (length frame.payload))) [
  | inl room ↦ by (Append frame ∷ []) (ap (λ (b : Bool). let steps : List Step = if b then [] else roll_steps log.end in steps ++ Append frame ∷ []) room) (changed_quiet log.end.seg _ world quiet)
  | inr full ↦ by (roll_steps log.end ++ Append frame ∷ []) (ap (λ (b : Bool). let steps : List Step = if b then [] else roll_steps log.end in steps ++ Append frame ∷ []) full)
      (rolled_quiet log.end frame world quiet (seal_steps log.end) seal_is)
]
  where
    by : (steps : List Step) → append_steps log frame ≡ steps → IsQuietBut (world_after steps log.end world) (end_after steps log.end).seg
        → IsQuietBut (world_after (append_steps log frame) log.end world) (end_after (append_steps log frame) log.end).seg
    by steps is still = subst (λ ss. IsQuietBut (world_after ss log.end world) (end_after ss log.end).seg) (sym is) still

    seal_is : (seal_steps log.end ≡ []) ⊎ (seal_steps log.end ≡ Append seal_frame ∷ [])
    seal_is = elim (bool_cases (can_seal log.end)) [
      | inl can ↦ inr (ap (λ (b : Bool). let steps : List Step = if b then Append seal_frame ∷ [] else [] in steps) can)
      | inr cannot ↦ inl (ap (λ (b : Bool). let steps : List Step = if b then Append seal_frame ∷ [] else [] in steps) cannot)
    ]
