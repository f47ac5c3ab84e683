use Rattle.std.proofs.Common.{◌≡◌, ℕ, ◌-◌, List, subst, sym, ap, ◌∙◌, inr, arith}
use Rattle.std.proofs.lemmas.Result.{err_from_is_err_and}
use Rattle.pm_types.specs.Ids.{page_id}
use Rattle.pm_pages.specs.Trees.{index_in}
use Rattle.pm_types.specs.declared.page_id.PageId.{PageId}
use Rattle.pm_types.specs.Keys.{HasKeyLength}
use Rattle.pm_pages.proofs.TakenPages.{cause_looked}
use Rattle.pm_tree.specs.Edits.{TakesEdit, EditsNodeAt}
use Rattle.pm_tree.specs.declared.edits.Edit.TheVariants.{Insert}
use Rattle.pm_tree.specs.Grown.{Forks}
use Rattle.pm_tree.proofs.Divided.{can_looked, divides_looked}
use Rattle.pm_tree.proofs.LinkedLeaves.{cause_passed, disk_passed}
use Rattle.pm_tree.proofs.ForkSteps.{can_fork, half_in, left_forks, takes_low}
use Rattle.pm_pages.proofs.SpareRoom.{may_take_looked}
use Rattle.pm_pages.proofs.SoundPages.{no_bad_passed}
use Rattle.pm_tree.proofs.inner.fork_left.Goals as goal

pub item_at-requires-clause-page : goal.item_at-requires-clause-page
item_at-requires-clause-page g c =
    let T = g.P.Pages.tells in
    let a = g.P.Pages.seen c.args.pages.now in
    let p = c.requires.parent in
    let full = c.requires.full p.page p.in_hand.page in
    (p.page, p.in_hand, p.parent.well_made, omega (arith, half_in T a c.args.at c.args.i c.args.part p full, c.requires.half))

pub divide-requires-clause-page : goal.divide-requires-clause-page
divide-requires-clause-page g c =
    let T = g.P.Pages.tells in
    let a = g.P.Pages.seen c.args.pages.now in
    let p = c.requires.parent in
    let full = c.requires.full p.page p.in_hand.page in
    let b = g.P.Pages.seen c.item_at.new.pages in
    let lt = half_in T a c.args.at c.args.i c.args.part p full in
    (p.page, can_looked T a b 0 c.args.at p.page _ c.args.half (c.args.half - 1) c.requires.meta c.item_at.ensures.looks (can_fork a c.args.at c.args.i c.args.part.from p full _ c.args.half (c.args.half - 1) (omega (arith, lt, c.requires.half)) (omega (arith, lt, c.requires.half))))

pub make_edit-requires-clause-takes : goal.make_edit-requires-clause-takes
make_edit-requires-clause-takes g c =
    let T = g.P.Pages.tells in
    let a = g.P.Pages.seen c.args.pages.now in
    let p = c.requires.parent in
    let full = c.requires.full p.page p.in_hand.page in
    let b = g.P.Pages.seen c.item_at.new.pages in
    let d = g.P.Pages.seen c.divide.new.pages in
    let divides = divides_looked T a b d c.args.at c.in_ok-right.right p.page _ c.args.half (c.args.half - 1) c.item_at.ensures.looks (c.in_ok-right.ensures.divides p.page (c.item_at.ensures.looks.pages c.args.at (inr p.in_hand.known) ∙ p.in_hand.page)) in
    let long : HasKeyLength c.args.part.from = c.key.ensures.length in
    subst (λ (k : List ℕ). TakesEdit d c.args.at k (Insert c.args.i c.child_name-word.result.0)) (sym c.key.ensures.key)
    (takes_low T a c.args.at c.args.i c.args.part p full d c.in_ok-right.right c.child_name-word.result.0 c.args.half _ long c.requires.half c.requires.side divides)

pub returns-clause-forks : goal.returns-clause-forks
returns-clause-forks g c =
    let T = g.P.Pages.tells in
    let a = g.P.Pages.seen c.args.pages.now in
    let p = c.requires.parent in
    let full = c.requires.full p.page p.in_hand.page in
    let b = g.P.Pages.seen c.item_at.new.pages in
    let d = g.P.Pages.seen c.divide.new.pages in
    let divides = divides_looked T a b d c.args.at c.in_ok-right.right p.page _ c.args.half (c.args.half - 1) c.item_at.ensures.looks (c.in_ok-right.ensures.divides p.page (c.item_at.ensures.looks.pages c.args.at (inr p.in_hand.known) ∙ p.in_hand.page)) in
    let e = g.P.Pages.seen c.make_edit.new.pages in
    let item = c.in_ok-item.ensures.item p.page p.in_hand.page in
    let word : c.child_name-word.result.0 ≡ (page_id a.part c.args.part.right).0 = ap (λ (q : PageId). q.0) c.child_name-word.ensures.name ∙ ap (λ n. (page_id n c.args.part.right).0) (c.part.ensures ∙ divides.edits.same.part) in
    let edited = subst (λ (k : List ℕ). EditsNodeAt d e c.args.at k (Insert c.args.i c.child_name-word.result.0)) c.key.ensures.key c.in_ok-make_edit.ensures.edited in
    subst (Forks T a e c.args.at c.args.i c.args.part) (sym c.forked.ensures)
    (left_forks T a c.args.at c.args.i c.args.part p full d e c.in_ok-right.right c.child_name-word.result.0 c.in_ok-item.item.1 c.args.half c.in_ok-item.item.0 (ap index_in (sym word) ∙ c.child_name-word.ensures.index) c.requires.half c.requires.side item.1 item.0 word divides c.make_edit.ensures.edits edited)

pub returns-in_err-item-clause-cause : goal.returns-in_err-item-clause-cause
returns-in_err-item-clause-cause g c =
    let T = g.P.Pages.tells in
    let a = g.P.Pages.seen c.args.pages.now in
    let p = err_from_is_err_and c.from_residual.result c.from_residual.ensures.1 in
    disk_passed T a a (g.P.Pages.seen c.item_at.new.pages) c.item_at.result c.from_residual.result c.in_err-item.field-0.0 p.0 c.in_err-item.was p.1 p.2 (omega arith) c.item_at.ensures.cause

pub returns-in_err-right-clause-cause : goal.returns-in_err-right-clause-cause
returns-in_err-right-clause-cause g c =
    let T = g.P.Pages.tells in
    let a = g.P.Pages.seen c.args.pages.now in
    let b = g.P.Pages.seen c.item_at.new.pages in
    let d = g.P.Pages.seen c.divide.new.pages in
    let q = err_from_is_err_and c.from_residual-in_err-right.result c.from_residual-in_err-right.ensures.1 in
    cause_passed T a d c.divide.result c.from_residual-in_err-right.result c.in_err-right.field-0.0 q.0 c.in_err-right.was q.1 q.2 (cause_looked T a b d 0 c.divide.result c.requires.meta c.item_at.ensures.looks c.divide.ensures.cause)

pub returns-in_err-make_edit-clause-cause : goal.returns-in_err-make_edit-clause-cause
returns-in_err-make_edit-clause-cause g c =
    let T = g.P.Pages.tells in
    let a = g.P.Pages.seen c.args.pages.now in
    let p = c.requires.parent in
    let full = c.requires.full p.page p.in_hand.page in
    let b = g.P.Pages.seen c.item_at.new.pages in
    let d = g.P.Pages.seen c.divide.new.pages in
    let divides = divides_looked T a b d c.args.at c.in_ok-right.right p.page _ c.args.half (c.args.half - 1) c.item_at.ensures.looks (c.in_ok-right.ensures.divides p.page (c.item_at.ensures.looks.pages c.args.at (inr p.in_hand.known) ∙ p.in_hand.page)) in
    let q = err_from_is_err_and c.from_residual-in_err-make_edit.result c.from_residual-in_err-make_edit.ensures.1 in
    disk_passed T a d (g.P.Pages.seen c.make_edit.new.pages) c.make_edit.result c.from_residual-in_err-make_edit.result c.in_err-make_edit.field-0.0 q.0 c.in_err-make_edit.was q.1 q.2 divides.edits.same.faults c.make_edit.ensures.cause

pub returns-clause-kept : goal.returns-clause-kept
returns-clause-kept g c =
    let k = g.met.P.Pages.kept_then in
    k c.args.pages.now c.divide.new.pages c.make_edit.new.pages (k c.args.pages.now c.item_at.new.pages c.divide.new.pages c.item_at.ensures.kept c.divide.ensures.kept) c.make_edit.ensures.kept

pub returns-in_err-right-clause-sound : goal.returns-in_err-right-clause-sound
returns-in_err-right-clause-sound g c = λ may.
    let p = err_from_is_err_and c.from_residual-in_err-right.result c.from_residual-in_err-right.ensures.1 in
    no_bad_passed c.divide.result c.from_residual-in_err-right.result c.in_err-right.field-0.0 p.0 c.in_err-right.was p.1 p.2
    (c.divide.ensures.sound (may_take_looked g.P.Pages.tells (g.P.Pages.seen c.args.pages.now) (g.P.Pages.seen c.item_at.new.pages) 0 c.item_at.ensures.looks may))
