use Rattle.pm_locks.specs.Sight.{IsSeatOf}
use Rattle.pm_stripe.specs.Sights.{KeepsSight}
use Rattle.pm_stripe.proofs.Tries.{OnlyTries}
use Rattle.pm_stripe.proofs.take.take_frame.Given as goal

-- it is a seat of the locks, which knows what it knew, and only words were met
abbrev pub invariant-tries : goal.invariant-tries
invariant-tries g l = record {
  seat : IsSeatOf l.locks l.seat;
  tries : OnlyTries l.initial.seat.view l.seat.view;
  sight : KeepsSight l.locks l.initial.seat.view l.seat.view;
}
