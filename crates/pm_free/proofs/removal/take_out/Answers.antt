use Rattle.std.proofs.Common.{◌≡◌, ◌∙◌, ap, subst}
use Rattle.std.proofs.lemmas.Result.{on_ok_weaker}
use Rattle.pm_types.specs.Ids.{page_id, link, page_of_link, index_of_id}
use Rattle.pm_types.specs.declared.page_id.Link.{Link}
use Rattle.pm_free.specs.Placed.{TakesRow, ChangesRows}
use Rattle.pm_free.proofs.PlacedPages.{link_is}
use Rattle.pm_free.proofs.removal.take_out.Goals as goal

pub returns-clause-takes : goal.returns-clause-takes
returns-clause-takes g c =
    let T = g.P.Pages.tells in
    let a = g.P.Pages.seen c.args.pages.now in
    let d = g.P.Pages.seen c.take_item.new.pages in
    let at_is : c.index.result ≡ index_of_id (page_of_link c.args.link) = c.index.ensures ∙ ap index_of_id c.page.ensures in
    let same : link (page_id a.part c.index.result) c.item.result ≡ c.args.link = (λ k. link (page_id a.part (at_is k)) (c.item.ensures k)) ∙ link_is a c.args.link c.requires.row in
    on_ok_weaker c.take_item.result (λ rows. subst (λ (l : Link). ChangesRows T a d 3 0 (λ old new. TakesRow a.part old new l)) same rows) c.take_item.ensures.takes
