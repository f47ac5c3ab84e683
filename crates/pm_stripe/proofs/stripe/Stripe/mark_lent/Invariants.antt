use Rattle.std.proofs.Common.{◌≡◌, length}
use Rattle.pm_locks.specs.Sight.{LockTable, Sight}
use Rattle.pm_stripe.specs.Kept.{Holds}
use Rattle.pm_stripe.specs.Marks.{MarksPages}
use Rattle.pm_stripe.specs.Stripes.{kept, SameButPages}
use Rattle.pm_stripe.proofs.stripe.Stripe.mark_lent.Given as goal

-- as many are marked as turns are done
abbrev pub invariant-each : goal.invariant-each
invariant-each l = record {
  marks : (locks : LockTable) (seat : Sight) → Holds locks (kept l.initial.self seat) → MarksPages locks l.at (kept l.initial.self seat) (kept l.self seat);
  same : SameButPages l.initial.self l.self;
  long : length l.self.held.items ≡ length l.initial.self.held.items;
}
