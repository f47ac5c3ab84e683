use Rattle.std.proofs.Common.{◌/◌, sym, subst, arith}
use Rattle.pm_policies.proofs.Trees.{IsEntered, enters, enters_more}
use Rattle.pm_policies.proofs.tournament.enter.Goals as goal

pub games-init : goal.games-init
games-init c = enters c.args.leaves c.args.nodes.now c.args.leaf c.args.node c.requires.games c.requires.leaf

pub games-preserved : goal.games-preserved
games-preserved c =
    subst (λ ns. IsEntered c.args.leaves c.args.nodes.now ns c.args.leaf c.args.node (c.games.at / 2)) (sym c.play.ensures)
    (enters_more c.args.leaves c.args.nodes.now c.games.nodes c.args.leaf c.args.node c.games.at c.games.invariant c.requires.leaf (omega arith))
