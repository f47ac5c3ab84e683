use Rattle.std.proofs.Common.{refl}
use Rattle.pm_tree_del.proofs.NearlyMended.{taken_nearly}
use Rattle.pm_tree_del.proofs.Removing.{changes_one}
use Rattle.pm_tree_del.proofs.RemovedTrees.{leaf_removes}
use Rattle.std.proofs.Common.{subst, sym}
use Rattle.pm_tree.specs.Puts.{half_of}
use Rattle.pm_tree_del.specs.declared.remove.Removal.{Removal}
use Rattle.pm_tree_del.specs.Removes.{RemovesFor}
use Rattle.pm_tree_del.proofs.remove.remove_item.Goals as goal

pub returns-clause-changes : goal.returns-clause-changes
returns-clause-changes g c =
    let T = g.P.Pages.tells in
    let a = g.P.Pages.seen c.args.pages.now in
    let d = g.P.Pages.seen c.take_out.new.pages in
    changes_one T a d c.args.at c.in_ok-few.ensures.takes.now c.requires.item.some c.requires.meta c.requires.item.in_hand.asked c.requires.item.in_hand.known c.in_ok-few.ensures.takes.after c.take_out.ensures.edits
    (λ t near. taken_nearly T a d c.args.at c.args.i c.in_ok-few.few t c.requires.item c.take_out.ensures.edits c.in_ok-few.ensures.takes near)

pub returns-clause-removes : goal.returns-clause-removes
returns-clause-removes g c =
    let T = g.P.Pages.tells in
    let a = g.P.Pages.seen c.args.pages.now in
    let d = g.P.Pages.seen c.take_out.new.pages in
    λ told key place limit. subst (λ (r : Removal). RemovesFor a.pages d.pages (half_of a.page_size) limit c.args.at key r) (sym c.removal_of.ensures)
    (leaf_removes T a d c.args.at c.args.i c.args.was key c.in_ok-few.few (half_of a.page_size) told c.requires.readable c.requires.meta c.requires.below refl place c.take_out.ensures.edits c.in_ok-few.ensures.takes limit)
