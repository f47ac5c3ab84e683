use Rattle.std.proofs.Common.{◌≤◌, length, sym, ap, ◌∙◌, subst}
use Rattle.pm_locks.specs.Sight.{LockTable}
use Rattle.pm_locks.proofs.Gathering.{joins_next, next_is, next_follows}
use Rattle.pm_locks.proofs.locks.Locks.join_workers.Goals as goal

pub joins-preserved : goal.joins-preserved
joins-preserved c =
    let eight = subst (λ n. n ≤ 8) (sym c.self.invariant.3 ∙ ap (λ (l : LockTable). l.workers) c.self.view_is) c.self.invariant.6 in
    let j = c.joins.invariant.0 in
    let is = c.in-Some.ensures.items in
    let worker = next_is c.args.self.now c.args.seat.now c.args.workers.now.items (length c.joins.workers.items) c.joins.seat c.joins.workers.items c.pop.new.self.items c.in-Some.worker j eight is c.requires.workers in (
      joins_next c.args.self.now c.args.seat.now c.args.workers.now.items (length c.joins.workers.items) c.joins.seat c.joins.workers.items c.pop.new.self.items c.in-Some.worker j eight is
          c.join_in.new.seat worker c.join_in.ensures.seat c.join_in.ensures.both c.join_in.ensures.entries,
      c.pop.ensures.capacity ∙ c.joins.invariant.1,
    )

pub join_in-requires-clause-other : goal.join_in-requires-clause-other
join_in-requires-clause-other c =
    let eight = subst (λ n. n ≤ 8) (sym c.self.invariant.3 ∙ ap (λ (l : LockTable). l.workers) c.self.view_is) c.self.invariant.6 in
    (next_is c.args.self.now c.args.seat.now c.args.workers.now.items (length c.joins.workers.items) c.joins.seat c.joins.workers.items c.pop.new.self.items c.in-Some.worker c.joins.invariant.0 eight c.in-Some.ensures.items c.requires.workers).of

pub join_in-requires-clause-other_still : goal.join_in-requires-clause-other_still
join_in-requires-clause-other_still c =
    let eight = subst (λ n. n ≤ 8) (sym c.self.invariant.3 ∙ ap (λ (l : LockTable). l.workers) c.self.view_is) c.self.invariant.6 in
    (next_is c.args.self.now c.args.seat.now c.args.workers.now.items (length c.joins.workers.items) c.joins.seat c.joins.workers.items c.pop.new.self.items c.in-Some.worker c.joins.invariant.0 eight c.in-Some.ensures.items c.requires.workers).still

pub join_in-requires-clause-follow : goal.join_in-requires-clause-follow
join_in-requires-clause-follow c =
    let eight = subst (λ n. n ≤ 8) (sym c.self.invariant.3 ∙ ap (λ (l : LockTable). l.workers) c.self.view_is) c.self.invariant.6 in
    let j = c.joins.invariant.0 in
    let is = c.in-Some.ensures.items in
    next_follows c.args.self.now c.args.seat.now c.args.workers.now.items (length c.joins.workers.items) c.joins.seat c.joins.workers.items c.pop.new.self.items c.in-Some.worker j eight is
    (next_is c.args.self.now c.args.seat.now c.args.workers.now.items (length c.joins.workers.items) c.joins.seat c.joins.workers.items c.pop.new.self.items c.in-Some.worker j eight is c.requires.workers)
