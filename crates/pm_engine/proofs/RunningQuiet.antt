-- What is pending of a store's files while it runs.
use Rattle.std.proofs.Common.{◌≡◌, inl, inr, ℕ, zero, suc, ◌+◌, max, List, [], ◌∷◌, ◌++◌, true, false, sym, ◌∙◌, ap, subst}
use Rattle.std.specs.Prelude.{if◌then◌else◌}
use Rattle.std.proofs.lemmas.Bool.{cases_eq}
use Rattle.pm_types.specs.declared.place.Place.{Place}
use Rattle.pm_frame.specs.Frames.{Frame}
use Rattle.pm_disk.specs.Files.{File, Drop, all_forced, with_change}
use Rattle.pm_disk.specs.Worlds.{World, log_forced}
use Rattle.pm_disk.proofs.Families.{file_here, file_there}
use Rattle.pm_records.specs.LogFiles.{IsQuietBut}
use Rattle.pm_records.specs.LogSteps.{Step, Force, DropSegment, ForceSegment, end_after, step_world, world_after}
use Rattle.pm_records.proofs.QuietLog.{forced_quiet, steps_change}
use Rattle.pm_records.proofs.Tracing.{world_after-append}
use Rattle.pm_segments.specs.Appends.{append_steps, grown}
use Rattle.pm_segments.specs.Drops.{is_there, drop_steps}
use Rattle.pm_segments.specs.Ends.{LogEnd}
use Rattle.pm_segments.proofs.Quiet.{append_quiet}
use Rattle.pm_core.specs.Machine.{worlds}
use Rattle.pm_core.specs.Rounds.{on_log}
use Rattle.pm_core.specs.States.{State}
use Rattle.pm_core.proofs.LogCalls.{log_worlds}
use Rattle.pm_ckpt.proofs.Opening.{grown_end}
use Rattle.pm_engine.specs.RunningStores.{OnlyLastPending}

-- steps that write the log leave the markers
pub steps_quiet : (steps : List Step) (from log : LogEnd) (s : State) (w : World) → s.end ≡ from.end → OnlyLastPending from w → IsQuietBut (world_after steps from.end w) log.end.seg → OnlyLastPending log (worlds (on_log steps) s w)
steps_quiet steps from log s w is quiet segments =
    let there : worlds (on_log steps) s w ≡ world_after steps from.end w = log_worlds steps s w ∙ ap (λ (p : Place). world_after steps p w) is in
    let kept = steps_change steps from.end w in
    subst (OnlyLastPending log) (sym there)
    (record { segments = segments; starts = ap (λ (f : File). f.since) kept.starts ∙ quiet.starts; ends = ap (λ (f : File). f.since) kept.ends ∙ quiet.ends })

-- an append
pub append_leaves : (log : LogEnd) (frame : Frame) (w : World) → IsQuietBut w log.end.seg → IsQuietBut (world_after (append_steps log frame) log.end w) (grown log frame).end.seg
append_leaves log frame w quiet =
    subst (λ (p : Place). IsQuietBut (world_after (append_steps log frame) log.end w) p.seg) (grown_end log frame) (append_quiet log frame w quiet)

-- a force
pub force_leaves : (seg : ℕ) (at : Place) (w : World) → IsQuietBut w at.seg → IsQuietBut (world_after (Force ∷ []) at w) seg
force_leaves seg at w quiet = λ n apart. forced_quiet at.seg w quiet n

-- an append that is forced, whichever segment is left out
pub forced_all : (log : LogEnd) (frame : Frame) (w : World) → IsQuietBut w log.end.seg → (seg : ℕ)
    → IsQuietBut (world_after (append_steps log frame ++ Force ∷ []) log.end w) seg
forced_all log frame w quiet seg =
    let appends = append_steps log frame in
    subst (λ (v : World). IsQuietBut v seg) (sym (world_after-append appends (Force ∷ []) log.end w))
    (force_leaves seg (end_after appends log.end) (world_after appends log.end w) (append_quiet log frame w quiet))

pub forced_leaves : (log : LogEnd) (frame : Frame) (w : World) → IsQuietBut w log.end.seg → IsQuietBut (world_after (append_steps log frame ++ Force ∷ []) log.end w) (grown log frame).end.seg
forced_leaves log frame w quiet = forced_all log frame w quiet (grown log frame).end.seg

-- a segment that is removed, and its absence forced
dropped_quiet : (seg from : ℕ) (end : Place) (w : World) → IsQuietBut w seg → IsQuietBut (step_world (ForceSegment from) end (step_world (DropSegment from) end w)) seg
dropped_quiet seg from end w quiet n apart =
    let gone = step_world (DropSegment from) end w in
    elim (cases_eq n from) [
      | inl is ↦ subst (λ m. ((log_forced from gone).log m).since ≡ []) (sym is) (ap (λ (f : File). f.since) (file_here gone.log from (all_forced (gone.log from))))
      | inr off ↦
          ap (λ (f : File). f.since) (file_there gone.log from n (all_forced (gone.log from)) off ∙ file_there w.log from n (with_change (w.log from) Drop) off) ∙ quiet n apart
    ]

pub drops_quiet : (seg from n : ℕ) (seen : World) (s : State) (w : World) → IsQuietBut w seg → IsQuietBut (worlds (on_log (drop_steps from n seen)) s w) seg
unfolding drop_steps
drops_quiet seg from zero seen s w quiet = quiet
drops_quiet seg from (suc n) seen s w quiet =
    elim (is_there from seen) as (λ b. IsQuietBut (worlds (on_log ((if b then DropSegment from ∷ ForceSegment from ∷ [] else []) ++ drop_steps (from + 1) n seen)) s w) seg) [
      | true ↦ drops_quiet seg (from + 1) n seen (record s { low = max s.low (from + 1) }) (step_world (ForceSegment from) s.end (step_world (DropSegment from) s.end w)) (dropped_quiet seg from s.end w quiet)
      | false ↦ drops_quiet seg (from + 1) n seen s w quiet
    ]
