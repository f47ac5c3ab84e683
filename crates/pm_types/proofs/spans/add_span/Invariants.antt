use Rattle.std.proofs.Common.{take}
use Rattle.pm_types.proofs.AddedSpans.{with_span, IsWalked}
use Rattle.pm_types.proofs.spans.add_span.Given as goal

abbrev pub invariant-each : goal.invariant-each
invariant-each l = IsWalked l.spans l.carried l.placed l.i l.count (with_span (take l.count l.fn.spans) l.fn.added)
