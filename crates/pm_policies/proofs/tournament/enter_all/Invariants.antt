use Rattle.std.proofs.Common.{◌≡◌, ℕ, ◌<◌, Some}
use Rattle.pm_policies.specs.Tournaments.{leaf_at, IsTournament}
use Rattle.pm_policies.proofs.tournament.enter_all.Given as goal

abbrev pub invariant-enters : goal.invariant-enters
invariant-enters l = record {
  games : IsTournament l.leaves l.nodes;
  all : (i : ℕ) → i < l.frame → leaf_at l.leaves l.nodes i ≡ Some (record { stamp = 0; frame = i });
}
