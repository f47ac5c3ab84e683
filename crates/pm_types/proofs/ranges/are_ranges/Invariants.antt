use Rattle.std.specs.Prelude.{◌↔◌}
use Rattle.pm_types.specs.DeltaRanges.{AreRanges}
use Rattle.pm_types.proofs.ranges.are_ranges.Given as goal

-- what is left is as many ranges exactly where all are
abbrev pub invariant-each : goal.invariant-each
invariant-each l = AreRanges l.left l.low l.end l.rest ↔ AreRanges l.number 0 l.end l.ranges

abbrev pub decreases-each : goal.decreases-each
decreases-each l = l.left
