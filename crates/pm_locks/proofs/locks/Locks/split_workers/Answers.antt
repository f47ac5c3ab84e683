use Rattle.std.proofs.Common.{◌<◌, ◌+◌, sym, ap, ◌∙◌, subst}
use Rattle.pm_locks.specs.Sight.{LockTable}
use Rattle.pm_locks.proofs.Spreading.{HasSpread, spreads_next}
use Rattle.pm_locks.proofs.locks.Locks.split_workers.Goals as goal

pub splits-preserved : goal.splits-preserved
splits-preserved c =
    let s = c.splits-test.true in
    let inv = c.splits.invariant in
    let e = c.split_off-worker.ensures in (
      subst (λ z. HasSpread c.args.self.now c.args.seat.now (c.splits.counter + 1) c.split_off-worker.new.seat z) (sym c.push_reserved.ensures.items)
          (spreads_next c.args.self.now c.args.seat.now c.splits.counter c.splits.seat c.split_off-worker.new.seat c.split_off-worker.result c.splits.workers.items inv.0
          (subst (λ n. c.splits.counter < n) (sym c.self.invariant.3 ∙ ap (λ (l : LockTable). l.workers) c.self.view_is) s)
          e.seat e.stays e.new_seat e.goes),
      c.push_reserved.ensures.capacity ∙ inv.1,
    )
