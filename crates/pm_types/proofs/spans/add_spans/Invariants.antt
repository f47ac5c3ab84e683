use Rattle.std.proofs.Common.{◌+◌, ◌≤◌, ◌⊎◌, take}
use Rattle.pm_types.specs.Spans.{IsInSpans, Lists}
use Rattle.pm_types.proofs.spans.add_spans.Given as goal

abbrev pub invariant-each : goal.invariant-each
invariant-each l = record {
  few : l.number ≤ l.count + l.span-index;
  lists : Lists (take l.number l.spans) (λ k. IsInSpans (take l.count l.fn.spans) k ⊎ IsInSpans (take l.span-index l.added) k);
}
