use Rattle.std.proofs.Common.{◌≡◌, ℕ, List, subst, ◌∙◌, refl, inr}
use Rattle.pm_tree.specs.Divisions.{CanDivide}
use Rattle.std.specs.Prelude.{None}
use Rattle.std.proofs.lemmas.Result.{err_from_is_err_and}
use Rattle.pm_pages.proofs.TakenPages.{cause_looked}
use Rattle.pm_tree.proofs.Divided.{can_looked, divides_looked}
use Rattle.pm_tree.proofs.LinkedLeaves.{takes_next, parts_leaf, cause_passed}
use Rattle.pm_pages.proofs.SpareRoom.{may_take_looked}
use Rattle.pm_pages.proofs.SoundPages.{no_bad_passed}
use Rattle.pm_tree.proofs.leaves.part_leaf.Goals as goal

pub divide-requires-clause-page : goal.divide-requires-clause-page
divide-requires-clause-page g c =
    let p = c.requires.page in
    (p.0, can_looked g.P.Pages.tells (g.P.Pages.seen c.args.pages.now) (g.P.Pages.seen c.next_of.new.pages) 0 c.args.at p.0 None c.args.cut c.args.cut c.requires.meta c.next_of.ensures.looks p.1)

pub returns-in_err-right-clause-cause : goal.returns-in_err-right-clause-cause
returns-in_err-right-clause-cause g c =
    let T = g.P.Pages.tells in
    let a = g.P.Pages.seen c.args.pages.now in
    let b = g.P.Pages.seen c.next_of.new.pages in
    let d = g.P.Pages.seen c.divide.new.pages in
    let p = err_from_is_err_and c.from_residual-in_err-right.result c.from_residual-in_err-right.ensures.1 in
    cause_passed T a d c.divide.result c.from_residual-in_err-right.result c.in_err-right.field-0.0 p.0 c.in_err-right.was p.1 p.2 (cause_looked T a b d 0 c.divide.result c.requires.meta c.next_of.ensures.looks c.divide.ensures.cause)

pub link_leaves-requires-clause-left : goal.link_leaves-requires-clause-left
link_leaves-requires-clause-left g c =
    let p = c.requires.page in
    let b = g.P.Pages.seen c.next_of.new.pages in
    let d = c.in_ok-right.ensures.divides p.0 (c.next_of.ensures.looks.pages c.args.at (inr p.1.in_hand.known) ∙ p.1.in_hand.page) in
    takes_next (g.P.Pages.seen c.divide.new.pages) c.args.at _ c.in_ok-right.right p.1.some d.left_is p.1.leaf

pub link_leaves-requires-clause-right : goal.link_leaves-requires-clause-right
link_leaves-requires-clause-right g c =
    let p = c.requires.page in
    let d = c.in_ok-right.ensures.divides p.0 (c.next_of.ensures.looks.pages c.args.at (inr p.1.in_hand.known) ∙ p.1.in_hand.page) in
    takes_next (g.P.Pages.seen c.divide.new.pages) c.in_ok-right.right _ c.in_ok-next.next d.some d.right_is refl

pub returns-clause-parts : goal.returns-clause-parts
returns-clause-parts g c = λ page is.
    let T = g.P.Pages.tells in
    let a = g.P.Pages.seen c.args.pages.now in
    let b = g.P.Pages.seen c.next_of.new.pages in
    let d = g.P.Pages.seen c.divide.new.pages in
    let p = c.requires.page in
    let same : p.0 ≡ page = cc (p.1.in_hand.page, is) in
    let can = subst (λ (q : List ℕ). CanDivide a c.args.at q None c.args.cut c.args.cut) same p.1 in
    parts_leaf T a b d (g.P.Pages.seen c.link_leaves.new.pages) c.args.at c.in_ok-right.right c.in_ok-next.next c.args.cut page can c.next_of.ensures.looks (c.in_ok-next.ensures.next page is)
    (divides_looked T a b d c.args.at c.in_ok-right.right page None c.args.cut c.args.cut c.next_of.ensures.looks (c.in_ok-right.ensures.divides page (c.next_of.ensures.looks.pages c.args.at (inr can.in_hand.known) ∙ is)))
    c.in_ok-link_leaves.ensures.links

pub returns-in_err-right-clause-sound : goal.returns-in_err-right-clause-sound
returns-in_err-right-clause-sound g c = λ may.
    let p = err_from_is_err_and c.from_residual-in_err-right.result c.from_residual-in_err-right.ensures.1 in
    no_bad_passed c.divide.result c.from_residual-in_err-right.result c.in_err-right.field-0.0 p.0 c.in_err-right.was p.1 p.2
    (c.divide.ensures.sound (may_take_looked g.P.Pages.tells (g.P.Pages.seen c.args.pages.now) (g.P.Pages.seen c.next_of.new.pages) 0 c.next_of.ensures.looks may))
