use Rattle.std.proofs.Common.{◌≡◌, length}
use Rattle.pm_logger.specs.Rings.{IsFresh, EachPair}
use Rattle.pm_logger.proofs.rings.open_rings.Given as goal

abbrev pub invariant-each : goal.invariant-each
invariant-each l = record {
  many : length l.rings.items ≡ l.counter;
  fresh : EachPair IsFresh l.ends.items l.rings.items;
}
