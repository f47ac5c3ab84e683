use Rattle.std.proofs.Common.{◌≤◌, length}
use Rattle.pm_pages.proofs.NextChanges.{FoundLeast}
use Rattle.pm_pages.proofs.asked.next_changed.Given as goal

-- of the entries so far the least changed page was found
abbrev pub invariant-each : goal.invariant-each
invariant-each l = record {
  within : l.i ≤ length l.asked;
  found : FoundLeast l.asked l.from l.i l.least;
}
