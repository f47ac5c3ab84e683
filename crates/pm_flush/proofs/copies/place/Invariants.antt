use Rattle.std.proofs.Common.{◌≡◌, ◌+◌, drop}
use Rattle.pm_flush.specs.Copies.{place_of}
use Rattle.pm_flush.proofs.copies.place.Given as goal

-- the page's copy stands among those that are left
abbrev pub invariant-each : goal.invariant-each
invariant-each l = place_of l.pages l.page ≡ l.i + place_of (drop l.i l.pages) l.page
