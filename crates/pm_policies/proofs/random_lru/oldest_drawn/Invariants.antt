use Rattle.std.proofs.Common.{◌≡◌, ◌<◌, length}
use Rattle.pm_policies.specs.Draws.{state_after, IsOldestDrawn}
use Rattle.pm_policies.proofs.random_lru.oldest_drawn.Given as goal

abbrev pub invariant-draws : goal.invariant-draws
invariant-draws l = record {
  oldest : IsOldestDrawn l.stamps l.first l.counter l.frame;
  within : l.frame < length l.stamps;
  state : l.state ≡ state_after l.counter l.first;
}
