use Rattle.std.proofs.lemmas.Result.{on_ok_weaker}
use Rattle.pm_tree_del.proofs.Settled.{replaces_root}
use Rattle.pm_tree_del.proofs.roots.replace_root.Goals as goal

pub returns-clause-replaces : goal.returns-clause-replaces
returns-clause-replaces g c =
    let T = g.P.Pages.tells in
    let a = g.P.Pages.seen c.args.pages.now in
    let b = g.P.Pages.seen c.give_page.new.pages in
    let d = g.P.Pages.seen c.set_number.new.pages in
    let held = c.requires.held in
    on_ok_weaker c.set_number.result (λ sets. replaces_root T a b d c.args.cache c.args.root c.args.child held.some held.known held.asked c.in_ok-give_page.ensures.gives c.in_ok-give_page.ensures.again c.set_number.ensures.edits sets) c.set_number.ensures.sets
