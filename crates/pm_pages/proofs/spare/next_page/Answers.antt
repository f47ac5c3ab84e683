use Rattle.pm_meta.specs.declared.slots.MetaSlot.TheVariants.{Pages}
use Rattle.std.proofs.Common.{◌+◌, arith}
use Rattle.pm_pages.proofs.EditedPages.{edits_made}
use Rattle.pm_pages.proofs.TakenPages.{takes_made, takes_next}
use Rattle.pm_pages.proofs.spare.next_page.Goals as goal

pub returns-clause-takes : goal.returns-clause-takes
returns-clause-takes g c =
    let T = g.P.Pages.tells in
    let a = g.P.Pages.seen c.args.pages.now in
    let b = g.P.Pages.seen c.make_zeros.new.pages in
    let d = g.P.Pages.seen c.set_number.new.pages in
    let makes = c.in_ok-make_zeros.ensures.makes in
    takes_made T a b d c.args.count Pages (c.args.count + 1) 1 (omega (arith, c.if-count-eq0.false)) c.requires.meta makes (edits_made T a b c.args.count makes) c.set_number.ensures.edits c.in_ok-set_number.ensures.sets
    (λ was now e sets. takes_next a T c.args.count was now c.requires.head c.requires.count e sets)
