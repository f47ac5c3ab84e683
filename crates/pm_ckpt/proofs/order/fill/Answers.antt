use Rattle.std.proofs.Common.{◌≡◌, false, List, get_or, sym, subst}
use Rattle.pm_types.specs.declared.page_id.PageId.{PageId}
use Rattle.pm_core.specs.PageSets.{has_page}
use Rattle.pm_ckpt.proofs.Once.{new_at}
use Rattle.pm_ckpt.proofs.order.fill.Goals as goal

pub add-requires-clause-new : goal.add-requires-clause-new
add-requires-clause-new c =
    let none : PageId = record { 0 = 0 } in
    subst (λ (ps : List PageId). has_page (get_or c.args.pages.now c.each.page-index none) ps ≡ false) (sym c.each.invariant.pages)
    (new_at c.args.pages.now c.each.page-index none c.each-test.true c.requires.once)
