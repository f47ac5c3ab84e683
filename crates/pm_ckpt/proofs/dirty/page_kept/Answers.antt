use Rattle.std.proofs.Common.{Some, None}
use Rattle.pm_ckpt.proofs.Listed.{named_page}
use Rattle.pm_ckpt.proofs.dirty.page_kept.Goals as goal

pub returns-in-Some : goal.returns-in-Some
returns-in-Some c =
    let places = c.args.stripe.now.places in
    named_page places.table.entries places.pages.items c.args.f (Some (c.in-Some.page, c.in-Some.field-0-1)) places.agree c.in-Some.ensures

pub returns-in-None : goal.returns-in-None
returns-in-None c =
    let places = c.args.stripe.now.places in
    named_page places.table.entries places.pages.items c.args.f None places.agree c.in-None.ensures
