use Rattle.pm_meta.proofs.Indexes.{EachBelow}
use Rattle.pm_meta.proofs.checks.all_below.Given as goal

-- the indexes so far are below
abbrev pub invariant-each : goal.invariant-each
invariant-each l = EachBelow l.pages l.page l.i
