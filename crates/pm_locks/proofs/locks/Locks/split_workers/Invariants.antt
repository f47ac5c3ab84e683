use Rattle.std.proofs.Common.{◌≡◌, vec_capacity}
use Rattle.pm_locks.proofs.Spreading.{HasSpread}
use Rattle.pm_locks.proofs.locks.Locks.split_workers.Given as goal

abbrev pub invariant-splits : goal.invariant-splits
invariant-splits l = HasSpread l.self l.fn.seat l.counter l.seat l.workers.items × (vec_capacity l.workers ≡ vec_capacity l.fn.workers)
