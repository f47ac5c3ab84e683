use Rattle.pm_pages.proofs.WrittenRanges.{IsWritten}
use Rattle.pm_pages.proofs.deltas.write_ranges.Given as goal

-- what is written, with the ranges that are left, is the delta
abbrev pub invariant-each : goal.invariant-each
invariant-each l = IsWritten l.page l.patch.spans l.into l.end l.i
