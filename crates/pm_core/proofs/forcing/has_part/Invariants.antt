use Rattle.std.proofs.Common.{◌≡◌, drop}
use Rattle.pm_core.specs.PageSets.{has_part}
use Rattle.pm_core.proofs.forcing.has_part.Given as goal

abbrev pub invariant-each : goal.invariant-each
invariant-each l = has_part l.part (drop l.page-index l.page-items) ≡ has_part l.part l.page-items
