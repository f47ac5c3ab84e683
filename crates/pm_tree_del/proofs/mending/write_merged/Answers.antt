use Rattle.std.specs.Prelude.{Result, Ok, Err, OnOk}
use Rattle.std.proofs.lemmas.Result.{on_ok_weaker}
use Rattle.pm_tree_del.proofs.WrittenPages.{gap_after, merges_pages}
use Rattle.pm_tree_del.proofs.mending.write_merged.Goals as goal

pub returns-clause-merges : goal.returns-clause-merges
returns-clause-merges g c =
    let T = g.P.Pages.tells in
    let a = g.P.Pages.seen c.args.pages.now in
    let b = g.P.Pages.seen c.write_page.new.pages in
    let m = g.P.Pages.seen c.write_page-2.new.pages in
    let d = g.P.Pages.seen c.give_page.new.pages in
    on_ok_weaker c.give_page.result (λ both. merges_pages T a b m d c.args.at c.args.pair.now c.args.parent.now c.args.left.now c.args.patches.now.left c.args.patches.now.parent c.requires.meta c.requires.pair c.requires.right c.requires.left c.requires.parent
    c.write_page.ensures.edits c.in_ok-write_page.ensures.written c.write_page-2.ensures.edits c.in_ok-write_page-2.ensures.written both.0 both.1) (on_ok_both _ _ c.give_page.result c.give_page.ensures.gives c.give_page.ensures.again)
  where
    on_ok_both : {A E : Type 0} (P Q : Type 0) (r : Result A E) → OnOk r P → OnOk r Q → OnOk r (P × Q)
    on_ok_both P Q (Ok x) p q = (p, q)
    on_ok_both P Q (Err e) p q = tt

pub returns-clause-cause : goal.returns-clause-cause
returns-clause-cause g c =
    let T = g.P.Pages.tells in
    let a = g.P.Pages.seen c.args.pages.now in
    let b = g.P.Pages.seen c.write_page.new.pages in
    let m = g.P.Pages.seen c.write_page-2.new.pages in
    let d = g.P.Pages.seen c.give_page.new.pages in
    gap_after T a b m d c.args.at c.args.pair.now.left c.args.pair.now.right c.args.parent.now c.args.left.now c.give_page.result c.write_page.ensures.edits c.write_page-2.ensures.edits c.requires.left.in_hand.known c.requires.parent.in_hand.known
    c.in_ok-write_page.ensures.written c.in_ok-write_page-2.ensures.written c.requires.pair.may.left_other c.give_page.ensures.cause
