use Rattle.pm_meta.specs.declared.slots.MetaSlot.TheVariants.{Reuse}
use Rattle.pm_pages.proofs.EditedPages.{edits_remade}
use Rattle.pm_pages.proofs.TakenPages.{takes_made, takes_head}
use Rattle.pm_pages.proofs.spare.take_head.Goals as goal

pub returns-clause-takes : goal.returns-clause-takes
returns-clause-takes g c =
    let T = g.P.Pages.tells in
    let a = g.P.Pages.seen c.args.pages.now in
    let b = g.P.Pages.seen c.make_zeros.new.pages in
    let d = g.P.Pages.seen c.set_number.new.pages in
    let makes = c.in_ok-make_zeros.ensures.makes in
    takes_made T a b d c.args.head Reuse c.args.next 0 c.requires.some c.requires.meta makes (edits_remade T a b c.args.head c.requires.next.in_hand.asked makes) c.set_number.ensures.edits c.in_ok-set_number.ensures.sets
    (λ was now e sets. takes_head a T c.args.head c.args.count c.args.next was now c.requires.head c.requires.count c.requires.below c.requires.next e sets)
