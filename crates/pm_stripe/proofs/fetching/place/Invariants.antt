use Rattle.std.proofs.Common.{◌≡◌, ◌+◌, drop}
use Rattle.pm_stripe.specs.Kept.{place_at}
use Rattle.pm_stripe.proofs.fetching.place.Given as goal

-- the page stands among those that are left
abbrev pub invariant-each : goal.invariant-each
invariant-each l = place_at l.held l.page.0 ≡ l.i + place_at (drop l.i l.held) l.page.0
