-- The steps of a whole checkpoint meet their guards.
use Rattle.std.proofs.Common.{◌≡◌, ℕ, zero, suc, max, min, ◌+◌, ◌-◌, ◌<◌, ◌≤◌, List, [], ◌∷◌, ◌++◌, map, true, false, None, refl, sym, ◌∙◌, ap, subst, arith}
use Rattle.std.specs.Prelude.{if◌then◌else◌, All}
use Rattle.std.proofs.Math.Nat.{le-max_right}
use Rattle.pm_types.specs.declared.limits.TheConstants.{PARTITIONS_MAX}
use Rattle.pm_types.specs.declared.page_id.PageId.{PageId}
use Rattle.pm_types.specs.declared.place.Place.{Place}
use Rattle.pm_types.specs.declared.shape.Mark.{Mark}
use Rattle.pm_types.specs.declared.shape.Shape.{Shape}
use Rattle.pm_disk.specs.Worlds.{World}
use Rattle.pm_records.specs.LogSteps.{Step, CutTail, Append, Force, NextSegment, DropSegment, ForceSegment, step_end, step_world, end_after}
use Rattle.pm_records.proofs.Tracing.{end_after-append}
use Rattle.pm_marks.specs.InForce.{Ended}
use Rattle.pm_segments.specs.Appends.{append_steps, grown}
use Rattle.pm_segments.specs.Drops.{is_there, drop_steps, drop_before_steps}
use Rattle.pm_segments.specs.Ends.{LogEnd}
use Rattle.pm_core.specs.BasePages.{Partitions}
use Rattle.pm_core.specs.Calls.{begin_steps, end_steps, force_steps, finish_steps}
use Rattle.pm_core.specs.Machine.{DiskStep, CanAll, CanDrop, log_state, next_state, next_world, states, worlds}
use Rattle.pm_core.specs.Rounds.{on_log}
use Rattle.pm_core.specs.States.{State}
use Rattle.pm_core.specs.Stands.{Stands}
use Rattle.pm_core.proofs.CrashLaw.{run_stands}
use Rattle.pm_core.proofs.Finishing.{begin_can}
use Rattle.pm_core.proofs.Joins.{can-append}
use Rattle.pm_core.proofs.Making.{worlds_join}
use Rattle.pm_ckpt.specs.Checkpoints.{opening_steps, ending_steps, whole_steps, CanCheckpoint, CanEndOnce, IsStateAfter}
use Rattle.pm_ckpt.specs.Marked.{begin_frame, begin_log, kept_segment}
use Rattle.pm_ckpt.specs.Writes.{Writing, written_page, write_steps, IsHeld, HaveGaps}
use Rattle.pm_ckpt.proofs.Finishing.{may_write, finish_all, forces_keep}
use Rattle.pm_ckpt.proofs.GoingOn.{begin_goes}
use Rattle.pm_ckpt.proofs.Opening.{grown_end}
use Rattle.pm_ckpt.proofs.Written.{after_writes, writes_keep, writes_world}

-- ---- states

pub states_join : (xs ys : List DiskStep) (s : State) (w : World) → states (xs ++ ys) s w ≡ states ys (states xs s w) (worlds xs s w)
states_join [] ys s w = refl
states_join (x ∷ xs) ys s w = states_join xs ys (next_state x s w) (next_world x s w)

-- what steps of the log keep of a state
record KeepsMarks (s t : State) : Type 0 where
  now : t.now ≡ s.now
  soon : t.soon ≡ s.soon

log_keeps : (step : Step) (s : State) → KeepsMarks s (log_state step s)
log_keeps CutTail s = record { now = refl; soon = refl }
log_keeps (Append frame) s = record { now = refl; soon = refl }
log_keeps Force s = record { now = refl; soon = refl }
log_keeps NextSegment s = record { now = refl; soon = refl }
log_keeps (DropSegment seg) s = record { now = refl; soon = refl }
log_keeps (ForceSegment seg) s = record { now = refl; soon = refl }

logs_keep : (steps : List Step) (s : State) (w : World) → KeepsMarks s (states (on_log steps) s w)
logs_keep [] s w = record { now = refl; soon = refl }
logs_keep (step ∷ steps) s w =
    let one = log_keeps step s in
    let more = logs_keep steps (log_state step s) (step_world step s.end w) in
    record { now = more.now ∙ one.now; soon = more.soon ∙ one.soon }

end_one : (step : Step) (s : State) → (log_state step s).end ≡ step_end step s.end
end_one CutTail s = refl
end_one (Append frame) s = refl
end_one Force s = refl
end_one NextSegment s = refl
end_one (DropSegment seg) s = refl
end_one (ForceSegment seg) s = refl

pub logs_end : (steps : List Step) (s : State) (w : World) → (states (on_log steps) s w).end ≡ end_after steps s.end
logs_end [] s w = refl
logs_end (step ∷ steps) s w = logs_end steps (log_state step s) (step_world step s.end w) ∙ ap (end_after steps) (end_one step s)

-- drops leave the log's end
drops_end : (from n : ℕ) (seen : World) (end : Place) → end_after (drop_steps from n seen) end ≡ end
unfolding drop_steps
drops_end from zero seen end = refl
drops_end from (suc n) seen end =
    elim (is_there from seen) as (λ b. end_after ((if b then DropSegment from ∷ ForceSegment from ∷ [] else []) ++ drop_steps (from + 1) n seen) end ≡ end) [
      | true ↦ drops_end (from + 1) n seen end
      | false ↦ drops_end (from + 1) n seen end
    ]

-- ---- drops meet their guards

drops_can : (told : List ℕ → ℕ) (mark : Mark) (from n : ℕ) (seen : World) (s : State) (w : World) → s.now.checkpoint ≡ Ended mark → s.soon ≡ None
    → ((seg : ℕ) → from ≤ seg → seg < from + n → (seg < mark.begin.seg) × (seg < mark.replay.seg)) → CanAll told (on_log (drop_steps from n seen)) s w
unfolding drop_steps
drops_can told mark from zero seen s w ended alone below = tt
drops_can told mark from (suc n) seen s w ended alone below =
    let here = below from (omega arith) (omega arith) in
    let later : (seg : ℕ) → from + 1 ≤ seg → seg < from + 1 + n → (seg < mark.begin.seg) × (seg < mark.replay.seg) = λ seg le lt. below seg (omega (arith, le)) (omega (arith, lt)) in
    let can : CanDrop from s = record { mark = mark; ended = ended; alone = alone; below_begin = here.0; below_replay = here.1 } in
    let dropped : State = record s { low = max s.low (from + 1) } in
    let low : from < dropped.low = omega (arith, le-max_right s.low (from + 1)) in
    elim (is_there from seen) as (λ b. CanAll told (on_log ((if b then DropSegment from ∷ ForceSegment from ∷ [] else []) ++ drop_steps (from + 1) n seen)) s w) [
      | true ↦ (can, (low, drops_can told mark (from + 1) n seen dropped (step_world (ForceSegment from) s.end (step_world (DropSegment from) s.end w)) ended alone later))
      | false ↦ drops_can told mark (from + 1) n seen s w ended alone later
    ]

below_both : (first a b seg : ℕ) → first ≤ seg → seg < first + (max first (min a b) - first) → (seg < a) × (seg < b)
below_both first a b seg le lt = (omega (arith, le, lt), omega (arith, le, lt))

-- ---- all steps

module _ (wanted : Shape) (told : List ℕ → ℕ) (s : State) (log : LogEnd) (mark : Mark) (held : Partitions) (order : List PageId) (w : World) (can : CanCheckpoint wanted told s log mark held order w)
    (held_all : All (IsHeld mark.shape.page_size held) order) where
  abbrev opening : List DiskStep
  opening = opening_steps log mark can.rebuilt

  abbrev logs : List DiskStep
  logs = on_log (begin_log log mark)

  abbrev begun : World
  begun = worlds opening s w

  pub opening_can : CanAll told opening s w
  opening_can = can-append told logs (begin_steps mark can.rebuilt) s w (begin_goes mark can.guard.fits wanted told s log w can.stands can.ends can.is_open can.begun) (begin_can told mark can.rebuilt (states logs s w) (worlds logs s w) can.guard)

  abbrev open_state : State
  open_state = states opening s w

  open_is : open_state ≡ states (begin_steps mark can.rebuilt) (states logs s w) (worlds logs s w)
  open_is = states_join logs (begin_steps mark can.rebuilt) s w

  begun_is : begun ≡ worlds (begin_steps mark can.rebuilt) (states logs s w) (worlds logs s w)
  begun_is = worlds_join logs (begin_steps mark can.rebuilt) s w

  pub can_end : CanEndOnce wanted told open_state mark held order begun
  can_end = record {
    stands = run_stands wanted told opening s w can.stands opening_can;
    runs = ap (λ (r : State). r.now.checkpoint) open_is;
    alone = ap (λ (r : State). r.soon) open_is;
    fits = can.guard.fits;
    shaped = can.guard.shaped ∙ sym (ap (λ (r : State). r.shape) open_is);
    rebuilds = λ part index. ap (λ (r : State). r.now.rebuilt part index) open_is ∙ can.rebuilds part index;
  }

  open_end : open_state.end ≡ (grown log (begin_frame mark)).end
  open_end =
      ap (λ (r : State). r.end) open_is ∙ logs_end (begin_log log mark) s w ∙ ap (end_after (begin_log log mark)) can.ends
      ∙ end_after-append (append_steps log (begin_frame mark)) (Force ∷ []) log.end ∙ grown_end log (begin_frame mark)

  module _ (xs : List Writing) (pages_are : map written_page xs ≡ order) (gaps : HaveGaps held xs begun) where
    abbrev ending : List DiskStep
    ending = ending_steps log mark can.rebuilt held xs

    abbrev rest : List DiskStep
    rest = write_steps held xs ++ finish_steps mark (map written_page xs)

    finish_there : CanAll told (finish_steps mark (map written_page xs)) (states (write_steps held xs) open_state begun) (worlds (write_steps held xs) open_state begun)
    finish_there =
        subst (λ ps. CanAll told (finish_steps mark ps) (states (write_steps held xs) open_state begun) (worlds (write_steps held xs) open_state begun)) (sym pages_are)
        (subst (λ (v : World). CanAll told (finish_steps mark order) (states (write_steps held xs) open_state begun) v) (sym (writes_world held xs open_state begun))
        (subst (λ (r : State). CanAll told (finish_steps mark order) r (after_writes held xs begun)) (sym (writes_keep held xs open_state begun))
        (finish_all wanted told open_state mark held order begun can_end held_all xs pages_are gaps)))

    rest_can : CanAll told rest open_state begun
    rest_can =
        can-append told (write_steps held xs) (finish_steps mark (map written_page xs)) open_state begun
        (may_write wanted told open_state mark held order begun can_end held_all xs pages_are gaps) finish_there

    pub ending_can : CanAll told ending s w
    ending_can = can-append told opening rest s w opening_can rest_can

    abbrev end_state : State
    end_state = states ending s w

    abbrev ended : World
    ended = worlds ending s w

    -- the state after the end marker
    end_is : end_state ≡ states (end_steps mark) open_state (worlds (force_steps 0 PARTITIONS_MAX (map written_page xs)) open_state (worlds (write_steps held xs) open_state begun))
    end_is =
        let pages = map written_page xs in
        let forces = force_steps 0 PARTITIONS_MAX pages in
        let wrote = worlds (write_steps held xs) open_state begun in
        states_join opening rest s w ∙ states_join (write_steps held xs) (finish_steps mark pages) open_state begun
        ∙ ap (λ (r : State). states (finish_steps mark pages) r wrote) (writes_keep held xs open_state begun)
        ∙ states_join forces (end_steps mark) open_state wrote
        ∙ ap (λ (r : State). states (end_steps mark) r (worlds forces open_state wrote)) (forces_keep 0 PARTITIONS_MAX pages open_state wrote).0

    end_runs : end_state.now.checkpoint ≡ Ended mark
    end_runs = ap (λ (r : State). r.now.checkpoint) end_is

    end_alone : end_state.soon ≡ None
    end_alone = ap (λ (r : State). r.soon) end_is

    pub end_end : end_state.end ≡ (grown log (begin_frame mark)).end
    end_end = ap (λ (r : State). r.end) end_is ∙ open_end

    pub end_stands : Stands wanted told end_state ended
    end_stands = run_stands wanted told ending s w can.stands ending_can

    abbrev drops : List Step
    drops = drop_before_steps (grown log (begin_frame mark)) (kept_segment mark) ended

    drops_all : CanAll told (on_log drops) end_state ended
    drops_all =
        let first = (grown log (begin_frame mark)).first in
        drops_can told mark first (max first (kept_segment mark) - first) ended end_state ended end_runs end_alone (below_both first mark.begin.seg mark.replay.seg)

    pub whole_can : CanAll told (whole_steps log mark can.rebuilt held xs s w) s w
    whole_can = can-append told ending (on_log drops) s w ending_can drops_all

    pub state_after : IsStateAfter log mark (states (whole_steps log mark can.rebuilt held xs s w) s w)
    state_after =
        let is = states_join ending (on_log drops) s w in
        let keeps = logs_keep drops end_state ended in
        let first = (grown log (begin_frame mark)).first in
        record {
          checkpoint = ap (λ (r : State). r.now.checkpoint) is ∙ ap (λ v. v.checkpoint) keeps.now ∙ end_runs;
          alone = ap (λ (r : State). r.soon) is ∙ keeps.soon ∙ end_alone;
          ends = ap (λ (r : State). r.end) is ∙ logs_end drops end_state ended ∙ drops_end first (max first (kept_segment mark) - first) ended end_state.end ∙ end_end;
        }
