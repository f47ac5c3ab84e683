use Rattle.std.proofs.Common.{◌≡◌, length, vec_capacity}
use Rattle.pm_locks.proofs.Gathering.{HasJoined}
use Rattle.pm_locks.proofs.locks.Locks.join_workers.Given as goal

abbrev pub invariant-joins : goal.invariant-joins
invariant-joins l = HasJoined l.self l.fn.seat l.fn.workers.items (length l.workers.items) l.seat l.workers.items × (vec_capacity l.workers ≡ vec_capacity l.fn.workers)

abbrev pub decreases-joins : goal.decreases-joins
decreases-joins l = goal.left-joins l
