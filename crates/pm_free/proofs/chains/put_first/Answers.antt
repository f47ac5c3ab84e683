use Rattle.std.proofs.lemmas.Result.{on_ok_weaker}
use Rattle.pm_pages.specs.Rows.{Partition}
use Rattle.std.specs.Prelude.{[]}
use Rattle.pm_free.specs.declared.edits.Edit.TheVariants.{Links}
use Rattle.pm_free.specs.Changes.{EditsPartition, SetsBefore}
use Rattle.pm_free.proofs.Changed.{changes_then}
use Rattle.pm_free.proofs.chains.put_first.Goals as goal

pub set_page-requires-clause-page : goal.set_page-requires-clause-page
set_page-requires-clause-page g c = c.in_ok-set_before.ensures.sets.stay c.args.at c.requires.page

pub returns-clause-puts : goal.returns-clause-puts
returns-clause-puts g c =
    let T = g.P.Pages.tells in
    let a = g.P.Pages.seen c.args.pages.now in
    let b = g.P.Pages.seen c.set_before.new.pages in
    let d = g.P.Pages.seen c.set_page.new.pages in
    let e = g.P.Pages.seen c.set_head.new.pages in
    let at = c.args.at in
    let head = c.args.head in
    let first = changes_then T a b d 0 0 _ _ (λ (x z : Partition). (y : Partition) × SetsBefore head at x y × EditsPartition at [] (Links 0 head) y z) (λ x y z r s. (y, r, s)) c.in_ok-set_before.ensures.sets c.in_ok-set_page.ensures.sets in
    on_ok_weaker c.set_head.result (λ sets. changes_then T a d e 0 0 _ _ _ (λ x y z r s. (r.0, y, r.1, r.2, s)) first sets) c.set_head.ensures.sets
