use Rattle.std.proofs.Common.{arith}
use Rattle.pm_tree.proofs.Climbs.{changes_forked}
use Rattle.pm_tree.proofs.put.take_without_room.Goals as goal

pub returns-clause-changes : goal.returns-clause-changes
returns-clause-changes g c =
    let T = g.P.Pages.tells in
    let a = g.P.Pages.seen c.args.pages.now in
    changes_forked T a (g.P.Pages.seen c.fork.new.pages) c.args.at c.args.i c.args.part c.in_ok-forked.forked c.requires.parent.some c.requires.meta c.requires.parent.below c.requires.right c.in_ok-forked.ensures.forks

pub returns-clause-takes : goal.returns-clause-takes
returns-clause-takes g c = c.in_ok-forked.ensures.forks

pub returns-clause-levels : goal.returns-clause-levels
returns-clause-levels g c = λ limit lt. (omega (arith, lt, c.in_ok-forked.ensures.forks.levels), c.in_ok-forked.ensures.forks.some)
