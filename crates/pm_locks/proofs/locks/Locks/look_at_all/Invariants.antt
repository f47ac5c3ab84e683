use Rattle.pm_locks.proofs.Gathering.{HasLooked}
use Rattle.pm_locks.proofs.locks.Locks.look_at_all.Given as goal

abbrev pub invariant-looks : goal.invariant-looks
invariant-looks l = HasLooked l.self l.fn.seat l.f l.seat
