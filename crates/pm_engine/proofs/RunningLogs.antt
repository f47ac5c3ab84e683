-- What steps of the log make of a state that runs.
use Rattle.std.proofs.Common.{◌≡◌, ℕ, Bool, true, false, List, [], ◌∷◌, ◌++◌, length, Some, refl, sym, ap, ◌∙◌, subst, arith, append_assoc, append-nil}
use Rattle.std.specs.Prelude.{if◌then◌else◌}
use Rattle.pm_types.specs.declared.place.Place.{Place}
use Rattle.pm_types.specs.declared.shape.Shape.{Shape}
use Rattle.pm_frame.specs.Frames.{Frame}
use Rattle.pm_disk.specs.Worlds.{World}
use Rattle.pm_model.specs.Eval.{Pairs}
use Rattle.pm_records.specs.LogFiles.{Written, HasLasting}
use Rattle.pm_records.specs.LogSteps.{Step, CutTail, Append, Force, NextSegment, DropSegment, ForceSegment, step_end, step_world, world_after, frames_in, next_written, written_after}
use Rattle.pm_records.specs.Logs.{all_frames, seal_frame, record_in}
use Rattle.pm_records.specs.Records.{Seal, payload_of}
use Rattle.pm_records.proofs.RecordOf.{record_of-payload}
use Rattle.pm_records.proofs.Writing.{CanAll as CanWriteAll, steps_keep}
use Rattle.pm_segments.specs.Appends.{can_seal, enter_steps, append_steps}
use Rattle.pm_segments.specs.Ends.{LogEnd, LogIsOpen, has_room}
use Rattle.pm_core.specs.Machine.{log_state, map_or, states, worlds}
use Rattle.pm_core.specs.Replays.{replayed, all_replayed}
use Rattle.pm_core.specs.Rounds.{on_log}
use Rattle.pm_core.specs.States.{State}
use Rattle.pm_core.specs.Stands.{Stands}
use Rattle.pm_core.proofs.LogCalls.{log_worlds}
use Rattle.pm_core.proofs.LogSteps.{written_by, is_written}
use Rattle.pm_ckpt.specs.Checkpoints.{written_so, IsBegunLog}
use Rattle.pm_ckpt.proofs.GoingOn.{begun_append, begun_force, front_replays}

-- ---- the state after them

-- a state after steps of the log that wrote it so far
pub record Follows (s t : State) (written : Written) : Type 0 where
  pub shape : t.shape ≡ s.shape
  pub now : t.now ≡ s.now
  pub soon : t.soon ≡ s.soon
  pub files : t.files ≡ s.files
  pub first : t.first ≡ s.first
  pub at : t.at ≡ written.at
  pub pending : t.pending ≡ written.pending
  pub tail : t.tail ≡ written.tail

again : (step : Step) (s t : State) (written : Written) → Follows (log_state step s) t written → Follows s t written
again CutTail s t written m = record { shape = m.shape; now = m.now; soon = m.soon; files = m.files; first = m.first; at = m.at; pending = m.pending; tail = m.tail }
again (Append f) s t written m = record { shape = m.shape; now = m.now; soon = m.soon; files = m.files; first = m.first; at = m.at; pending = m.pending; tail = m.tail }
again Force s t written m = record { shape = m.shape; now = m.now; soon = m.soon; files = m.files; first = m.first; at = m.at; pending = m.pending; tail = m.tail }
again NextSegment s t written m = record { shape = m.shape; now = m.now; soon = m.soon; files = m.files; first = m.first; at = m.at; pending = m.pending; tail = m.tail }
again (DropSegment seg) s t written m = record { shape = m.shape; now = m.now; soon = m.soon; files = m.files; first = m.first; at = m.at; pending = m.pending; tail = m.tail }
again (ForceSegment seg) s t written m = m

pub state_follows : (steps : List Step) (fs : List Frame) (s : State) (w : World) → Follows s (states (on_log steps) s w) (written_after steps (written_by s fs))
state_follows [] fs s w = record { shape = refl; now = refl; soon = refl; files = refl; first = refl; at = refl; pending = refl; tail = refl }
state_follows (CutTail ∷ steps) fs s w = again CutTail s _ _ (state_follows steps fs (log_state CutTail s) (step_world CutTail s.end w))
state_follows (Append f ∷ steps) fs s w = again (Append f) s _ _ (state_follows steps fs (log_state (Append f) s) (step_world (Append f) s.end w))
state_follows (Force ∷ steps) fs s w = again Force s _ _ (state_follows steps (fs ++ s.pending) (log_state Force s) (step_world Force s.end w))
state_follows (NextSegment ∷ steps) fs s w = again NextSegment s _ _ (state_follows steps fs (log_state NextSegment s) (step_world NextSegment s.end w))
state_follows (DropSegment seg ∷ steps) fs s w = again (DropSegment seg) s _ _ (state_follows steps fs (log_state (DropSegment seg) s) (step_world (DropSegment seg) s.end w))
state_follows (ForceSegment seg ∷ steps) fs s w = again (ForceSegment seg) s _ _ (state_follows steps fs (log_state (ForceSegment seg) s) (step_world (ForceSegment seg) s.end w))

-- no segment is dropped by steps that write
pub low_stays : (steps : List Step) (end : Place) (t : Written) (s : State) (w : World) → CanWriteAll 0 steps end t → (states (on_log steps) s w).low ≡ s.low
low_stays [] end t s w can = refl
low_stays (CutTail ∷ steps) end t s w can = low_stays steps (step_end CutTail end) (next_written CutTail t) (log_state CutTail s) (step_world CutTail s.end w) can.1
low_stays (Append f ∷ steps) end t s w can = low_stays steps (step_end (Append f) end) (next_written (Append f) t) (log_state (Append f) s) (step_world (Append f) s.end w) can.1
low_stays (Force ∷ steps) end t s w can = low_stays steps (step_end Force end) (next_written Force t) (log_state Force s) (step_world Force s.end w) can.1
low_stays (NextSegment ∷ steps) end t s w can = low_stays steps (step_end NextSegment end) (next_written NextSegment t) (log_state NextSegment s) (step_world NextSegment s.end w) can.1
low_stays (DropSegment seg ∷ steps) end t s w can = absurd (omega (arith, can.0))
low_stays (ForceSegment seg ∷ steps) end t s w can = absurd (omega (arith, can.0))

pub can_low : (low : ℕ) (steps : List Step) (end : Place) (t : Written) → CanWriteAll 0 steps end t → CanWriteAll low steps end t
can_low low [] end t can = tt
can_low low (CutTail ∷ steps) end t can = (can.0, can_low low steps (step_end CutTail end) (next_written CutTail t) can.1)
can_low low (Append f ∷ steps) end t can = (can.0, can_low low steps (step_end (Append f) end) (next_written (Append f) t) can.1)
can_low low (Force ∷ steps) end t can = (can.0, can_low low steps (step_end Force end) (next_written Force t) can.1)
can_low low (NextSegment ∷ steps) end t can = (can.0, can_low low steps (step_end NextSegment end) (next_written NextSegment t) can.1)
can_low low (DropSegment seg ∷ steps) end t can = absurd (omega (arith, can.0))
can_low low (ForceSegment seg ∷ steps) end t can = absurd (omega (arith, can.0))

-- what led to the end of the lasting log still does, with what was made lasting after it
pub leads_on : (wanted : Shape) (told : List ℕ → ℕ) (s : State) (w : World) → Stands wanted told s w → (steps : List Step) (p : Place) (fs : List Frame) → HasLasting all_frames w.log s.low s.at p fs
    → CanWriteAll 0 steps s.end (written_by s fs)
    → HasLasting all_frames (worlds (on_log steps) s w).log (states (on_log steps) s w).low (states (on_log steps) s w).at p (written_after steps (written_by s fs)).lasting
leads_on wanted told s w stands steps p fs leads can =
    let t = states (on_log steps) s w in
    let lasting = (written_after steps (written_by s fs)).lasting in
    let there = steps_keep s.low steps w p s.end (written_by s fs) (is_written wanted told s w stands p fs leads) (can_low s.low steps s.end (written_by s fs) can) in
    let at = (state_follows steps fs s w).at in
    let low = low_stays steps s.end (written_by s fs) s w can in
    subst (λ (v : World). HasLasting all_frames v.log t.low t.at p lasting) (sym (log_worlds steps s w))
    (subst (λ (n : ℕ). HasLasting all_frames (world_after steps s.end w).log n t.at p lasting) (sym low)
    (subst (λ (q : Place). HasLasting all_frames (world_after steps s.end w).log s.low q p lasting) (sym at) there.log.leads))

-- the newest map is the one after the frames that were appended
pub newest_on : (steps : List Step) (s : State) (w : World) (pairs : Pairs) → all_replayed s.shape (s.pending ++ frames_in steps) (Some s.map) ≡ Some pairs
    → all_replayed s.shape (states (on_log steps) s w).pending (Some (states (on_log steps) s w).map) ≡ Some pairs
newest_on [] s w pairs is = ap (λ fs. all_replayed s.shape fs (Some s.map)) (sym (append-nil s.pending)) ∙ is
newest_on (CutTail ∷ steps) s w pairs is = newest_on steps (log_state CutTail s) (step_world CutTail s.end w) pairs is
newest_on (Append f ∷ steps) s w pairs is =
    newest_on steps (log_state (Append f) s) (step_world (Append f) s.end w) pairs (ap (λ fs. all_replayed s.shape fs (Some s.map)) (append_assoc s.pending (f ∷ []) (frames_in steps)) ∙ is)
newest_on (Force ∷ steps) s w pairs is =
    let front = front_replays s.shape s.pending (frames_in steps) s.map pairs is in
    let there : map_or (all_replayed s.shape s.pending (Some s.map)) s.map ≡ front.0 = ap (λ o. map_or o s.map) front.1 in
    newest_on steps (log_state Force s) (step_world Force s.end w) pairs (ap (λ p. all_replayed s.shape (frames_in steps) (Some p)) there ∙ front.2)
newest_on (NextSegment ∷ steps) s w pairs is = newest_on steps (log_state NextSegment s) (step_world NextSegment s.end w) pairs is
newest_on (DropSegment seg ∷ steps) s w pairs is = newest_on steps (log_state (DropSegment seg) s) (step_world (DropSegment seg) s.end w) pairs is
newest_on (ForceSegment seg ∷ steps) s w pairs is = newest_on steps (log_state (ForceSegment seg) s) (step_world (ForceSegment seg) s.end w) pairs is

-- a log that has its RESTART goes on having it
pub begun_on : (steps : List Step) (s : State) (w : World) → IsBegunLog s.at s.pending → IsBegunLog (states (on_log steps) s w).at (states (on_log steps) s w).pending
begun_on [] s w begun = begun
begun_on (CutTail ∷ steps) s w begun = begun_on steps (log_state CutTail s) (step_world CutTail s.end w) begun
begun_on (Append f ∷ steps) s w begun = begun_on steps (log_state (Append f) s) (step_world (Append f) s.end w) (begun_append s.at s.pending f begun.from_one)
begun_on (Force ∷ steps) s w begun = begun_on steps (log_state Force s) (step_world Force s.end w) (begun_force s.at s.pending begun)
begun_on (NextSegment ∷ steps) s w begun = begun_on steps (log_state NextSegment s) (step_world NextSegment s.end w) begun
begun_on (DropSegment seg ∷ steps) s w begun = begun_on steps (log_state (DropSegment seg) s) (step_world (DropSegment seg) s.end w) begun
begun_on (ForceSegment seg ∷ steps) s w begun = begun_on steps (log_state (ForceSegment seg) s) (step_world (ForceSegment seg) s.end w) begun

-- ---- an append

pub seal_is : record_in seal_frame ≡ Some Seal
unfolding payload_of
seal_is = record_of-payload Seal tt

-- a SEAL before a frame changes no map
pub append_replays : (log : LogEnd) (f : Frame) (shape : Shape) (pairs : Pairs) → all_replayed shape (frames_in (append_steps log f)) (Some pairs) ≡ all_replayed shape (f ∷ []) (Some pairs)
append_replays log f shape pairs = by (has_room log (length f.payload)) (can_seal log.end)
  where
    by : (room seals : Bool) → all_replayed shape (frames_in ((if room then [] else (if seals then Append seal_frame ∷ [] else []) ++ enter_steps) ++ Append f ∷ [])) (Some pairs) ≡ all_replayed shape (f ∷ []) (Some pairs)
    by true seals = refl
    by false true = ap (λ o. all_replayed shape (f ∷ []) (replayed shape o pairs)) seal_is
    by false false = refl

-- what is known of an open log says nothing of the frames before its pending ones
pub open_as : (log : LogEnd) (s : State) (fs : List Frame) → LogIsOpen log (written_so s) → LogIsOpen log (written_by s fs)
open_as log s fs o = record { limits = o.limits; ready = o.ready; plain = o.plain; room_to_seal = o.room_to_seal; numbered = o.numbered }
