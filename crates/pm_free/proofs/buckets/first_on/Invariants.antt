use Rattle.pm_free.specs.Buckets.{HasNoneOn}
use Rattle.pm_free.proofs.buckets.first_on.Given as goal

-- the buckets so far have no pages
abbrev pub invariant-buckets : goal.invariant-buckets
invariant-buckets l = HasNoneOn l.page l.from l.bucket
