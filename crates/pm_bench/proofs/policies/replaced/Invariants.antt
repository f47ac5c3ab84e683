use Rattle.std.proofs.Common.{◌≡◌}
use Rattle.pm_bench.proofs.policies.replaced.Given as goal

abbrev pub invariant-pages : goal.invariant-pages
invariant-pages g l = g.P.Policy.frame_count l.policy ≡ l.frames
