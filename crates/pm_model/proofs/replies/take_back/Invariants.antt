use Rattle.std.proofs.Common.{◌≡◌}
use Rattle.std.specs.Vec.{vec_capacity}
use Rattle.pm_model.proofs.replies.take_back.Given as goal

abbrev pub invariant-each : goal.invariant-each
invariant-each l = vec_capacity l.replies ≡ vec_capacity l.initial.replies

abbrev pub decreases-each : goal.decreases-each
decreases-each l = goal.left-each l
