use Rattle.std.proofs.Common.{subst}
use Rattle.pm_policies.specs.Draws.{Drawing, IsOldestDrawn}
use Rattle.pm_policies.proofs.random_lru.RandomLruPolicy.pick.Goals as goal

pub returns-clause-oldest : goal.returns-clause-oldest
returns-clause-oldest c =
    subst (λ (d : Drawing). IsOldestDrawn d.stamps d.state 5 c.oldest_drawn-drawn.result.frame) c.self.view_is
    (subst (λ stamps. IsOldestDrawn stamps c.self.inside.state 5 c.oldest_drawn-drawn.result.frame) c.deref.ensures.value c.oldest_drawn-drawn.ensures.oldest)
