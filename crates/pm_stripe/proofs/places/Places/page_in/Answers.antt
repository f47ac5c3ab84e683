use Rattle.std.proofs.Common.{Some, sym, ap, ◌∙◌}
use Rattle.pm_stripe.proofs.PlacedPages.{at_frame, named_at}
use Rattle.pm_stripe.proofs.places.Places.page_in.Goals as goal

pub returns : goal.returns
returns c =
    let places = c.args.self.now in
    let at = at_frame places.pages.items c.args.frame c.index.result.now c.index.ensures c.requires ∙ ap Some c.in_ok-page.was in
    named_at places.table.entries places.pages.items places.agree c.in_ok-page.page c.args.frame c.in_ok-tag.field-0-0 c.in_ok-tag.tag at (sym c.get.ensures ∙ c.in_ok-tag.was)
