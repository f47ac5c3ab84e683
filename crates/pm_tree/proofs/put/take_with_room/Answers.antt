use Rattle.std.proofs.Common.{refl}
use Rattle.pm_tree.proofs.Climbs.{changes_grown}
use Rattle.pm_tree.proofs.put.take_with_room.Goals as goal

pub returns-clause-changes : goal.returns-clause-changes
returns-clause-changes g c =
    let T = g.P.Pages.tells in
    let a = g.P.Pages.seen c.args.pages.now in
    changes_grown T a (g.P.Pages.seen c.add_child.new.pages) c.args.at c.args.i c.args.part.now c.requires.parent.some c.requires.meta c.requires.parent.below c.requires.right c.in_ok-add_child.ensures.grows

pub returns-clause-takes : goal.returns-clause-takes
returns-clause-takes g c = (refl, c.in_ok-add_child.ensures.grows)
