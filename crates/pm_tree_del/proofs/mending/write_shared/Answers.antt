use Rattle.std.proofs.lemmas.Result.{on_ok_weaker}
use Rattle.pm_tree_del.proofs.WrittenPages.{shares_pages}
use Rattle.pm_tree_del.proofs.mending.write_shared.Goals as goal

pub returns-clause-shares : goal.returns-clause-shares
returns-clause-shares g c =
    let T = g.P.Pages.tells in
    let a = g.P.Pages.seen c.args.pages.now in
    let b = g.P.Pages.seen c.write_page.new.pages in
    let m = g.P.Pages.seen c.write_page-2.new.pages in
    let d = g.P.Pages.seen c.write_page-3.new.pages in
    on_ok_weaker c.write_page-3.result (λ written. shares_pages T a b m d c.args.at c.args.pair.now c.args.parent.now c.args.left.now c.args.right.now c.args.patches.now.left c.args.patches.now.right c.args.patches.now.parent c.requires.pair c.requires.left c.requires.right c.requires.parent
    c.write_page.ensures.edits c.in_ok-write_page.ensures.written c.write_page-2.ensures.edits c.in_ok-write_page-2.ensures.written c.write_page-3.ensures.edits written) c.write_page-3.ensures.written
