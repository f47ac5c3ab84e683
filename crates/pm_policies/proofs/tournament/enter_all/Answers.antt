use Rattle.std.proofs.Common.{◌≡◌, Some, sym, subst, ◌∙◌, arith, below_more}
use Rattle.pm_policies.specs.Tournaments.{leaf_at, IsTournament}
use Rattle.pm_policies.proofs.Trees.{nobody}
use Rattle.pm_policies.proofs.tournament.enter_all.Goals as goal

pub enters-init : goal.enters-init
enters-init c = record {
  games = subst (IsTournament c.args.leaves) (sym c.requires) (nobody c.args.leaves);
  all = λ i h. absurd (omega arith);
}

pub enters-preserved : goal.enters-preserved
enters-preserved c = record {
  games = c.enter.ensures.games;
  all = below_more (λ i. leaf_at c.args.leaves c.enter.new.nodes i ≡ Some (record { stamp = 0; frame = i })) c.enters.frame
      (λ i h. c.enter.ensures.others i (omega arith) (λ e. omega arith) ∙ c.enters.invariant.all i h)
      c.enter.ensures.entered;
}
