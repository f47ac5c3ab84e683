use Rattle.std.proofs.Common.{◌≡◌, ◌+◌, drop}
use Rattle.pm_pages.specs.Asked.{position_of}
use Rattle.pm_pages.proofs.asked.position.Given as goal

-- the entry stands among those that are left
abbrev pub invariant-each : goal.invariant-each
invariant-each l = position_of l.asked l.index ≡ l.i + position_of (drop l.i l.asked) l.index
