use Rattle.std.proofs.Common.{◌≡◌}
use Rattle.pm_bench.proofs.policy_rules.agrees.Given as goal

abbrev pub invariant-calls : goal.invariant-calls
invariant-calls g l = g.P.Policy.frame_count l.policy ≡ l.frames
