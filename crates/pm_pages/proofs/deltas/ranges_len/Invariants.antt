use Rattle.std.proofs.Common.{◌≡◌, ◌+◌, ◌*◌, ◌≤◌, drop}
use Rattle.pm_pages.specs.Deltas.{ranges_len, delta_len}
use Rattle.pm_pages.proofs.deltas.ranges_len.Given as goal

-- the length so far, with that of what is left, is the whole
abbrev pub invariant-each : goal.invariant-each
invariant-each l = record {
  len : l.len + ranges_len (drop l.i l.patch.spans) ≡ delta_len l.patch.spans;
  small : l.len ≤ 1 + 65539 * l.i;
}
