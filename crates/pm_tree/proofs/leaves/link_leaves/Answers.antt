use Rattle.std.proofs.lemmas.Result.{on_ok_weaker}
use Rattle.pm_tree.proofs.LinkedLeaves.{takes_still, links_leaves}
use Rattle.pm_tree.proofs.leaves.link_leaves.Goals as goal

pub make_edit-requires-2-clause-takes : goal.make_edit-requires-2-clause-takes
make_edit-requires-2-clause-takes g c =
    takes_still g.P.Pages.tells (g.P.Pages.seen c.args.pages.now) (g.P.Pages.seen c.make_edit.new.pages) c.args.at c.args.right c.args.right c.requires.other c.make_edit.ensures.edits c.requires.left

pub returns-clause-links : goal.returns-clause-links
returns-clause-links g c =
    on_ok_weaker c.make_edit-2.result (λ edited. links_leaves g.P.Pages.tells (g.P.Pages.seen c.args.pages.now) (g.P.Pages.seen c.make_edit.new.pages) (g.P.Pages.seen c.make_edit-2.new.pages) c.args.at c.args.right c.args.next c.requires.other
    c.make_edit.ensures.edits c.in_ok-make_edit.ensures.edited c.make_edit-2.ensures.edits edited) c.make_edit-2.ensures.edited
