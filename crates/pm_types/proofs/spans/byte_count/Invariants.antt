use Rattle.std.proofs.Common.{◌≡◌, ◌*◌, ◌≤◌, take}
use Rattle.pm_types.specs.Spans.{byte_count}
use Rattle.pm_types.proofs.spans.byte_count.Given as goal

abbrev pub invariant-each : goal.invariant-each
invariant-each l = record {
  sum : l.bytes ≡ byte_count (take l.span-index l.spans);
  small : l.bytes ≤ 65535 * l.span-index;
}
