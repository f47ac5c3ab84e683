use Rattle.std.proofs.Common.{ℕ, List, subst, sym, ap, ◌∙◌, refl, inr, arith}
use Rattle.std.proofs.lemmas.Result.{err_from_is_err_and}
use Rattle.pm_pages.proofs.TakenPages.{cause_looked}
use Rattle.pm_tree.specs.declared.put.Put.TheVariants.{Split}
use Rattle.pm_tree.specs.Puts.{half_of, PutsFor, HasLevels}
use Rattle.pm_tree.proofs.Divided.{can_looked}
use Rattle.pm_tree.proofs.LinkedLeaves.{cause_passed, disk_passed}
use Rattle.pm_tree.proofs.LeafChanges.{cut_below, can_part, parts_looked, left_changes, left_puts, takes_left}
use Rattle.pm_pages.proofs.SpareRoom.{may_take_looked}
use Rattle.pm_pages.proofs.SoundPages.{no_bad_passed}
use Rattle.pm_tree.proofs.leaves.split_left.Goals as goal

pub item_at-requires-clause-page : goal.item_at-requires-clause-page
item_at-requires-clause-page g c =
    let leaf = c.requires.leaf in
    (leaf.page, leaf.in_hand, leaf.gap.well_made, cut_below (g.P.Pages.seen c.args.pages.now) c.args.at c.args.key.now c.args.i c.args.cut leaf c.requires.cut)

pub part_leaf-requires-clause-page : goal.part_leaf-requires-clause-page
part_leaf-requires-clause-page g c =
    let T = g.P.Pages.tells in
    let a = g.P.Pages.seen c.args.pages.now in
    let leaf = c.requires.leaf in
    (leaf.page, can_looked T a (g.P.Pages.seen c.item_at.new.pages) 0 c.args.at leaf.page _ c.args.cut c.args.cut c.requires.meta c.item_at.ensures.looks (can_part a c.args.at c.args.key.now c.args.i c.args.cut leaf c.requires.cut))

pub make_edit-requires-clause-takes : goal.make_edit-requires-clause-takes
make_edit-requires-clause-takes g c =
    let T = g.P.Pages.tells in
    let a = g.P.Pages.seen c.args.pages.now in
    let leaf = c.requires.leaf in
    let b = g.P.Pages.seen c.item_at.new.pages in
    let d = g.P.Pages.seen c.part_leaf.new.pages in
    let parts = parts_looked T a b d c.args.at leaf.page c.args.cut c.in_ok-right.right c.item_at.ensures.looks (c.in_ok-right.ensures.parts leaf.page (c.item_at.ensures.looks.pages c.args.at (inr leaf.in_hand.known) ∙ leaf.in_hand.page)) in
    takes_left T a d c.args.at c.args.key.now c.args.i c.args.cut c.args.word c.in_ok-right.right leaf c.requires.cut c.requires.key c.requires.side parts

pub returns-clause-changes : goal.returns-clause-changes
returns-clause-changes g c =
    let T = g.P.Pages.tells in
    let a = g.P.Pages.seen c.args.pages.now in
    let leaf = c.requires.leaf in
    let b = g.P.Pages.seen c.item_at.new.pages in
    let d = g.P.Pages.seen c.part_leaf.new.pages in
    let parts = parts_looked T a b d c.args.at leaf.page c.args.cut c.in_ok-right.right c.item_at.ensures.looks (c.in_ok-right.ensures.parts leaf.page (c.item_at.ensures.looks.pages c.args.at (inr leaf.in_hand.known) ∙ leaf.in_hand.page)) in
    left_changes T a d (g.P.Pages.seen c.make_edit.new.pages) c.args.at c.args.key.now c.args.i c.args.cut c.args.word c.in_ok-right.right c.args.at c.args.i leaf c.requires.cut c.requires.meta parts c.make_edit.ensures.edits c.in_ok-make_edit.ensures.edited (inr refl) c.requires.side refl refl

pub returns-clause-puts : goal.returns-clause-puts
returns-clause-puts g c = λ t limit.
    let T = g.P.Pages.tells in
    let a = g.P.Pages.seen c.args.pages.now in
    let leaf = c.requires.leaf in
    let b = g.P.Pages.seen c.item_at.new.pages in
    let d = g.P.Pages.seen c.part_leaf.new.pages in
    let e = g.P.Pages.seen c.make_edit.new.pages in
    let parts = parts_looked T a b d c.args.at leaf.page c.args.cut c.in_ok-right.right c.item_at.ensures.looks (c.in_ok-right.ensures.parts leaf.page (c.item_at.ensures.looks.pages c.args.at (inr leaf.in_hand.known) ∙ leaf.in_hand.page)) in
    let from = c.in_ok-item.ensures.item leaf.page leaf.in_hand.page in
    let puts = left_puts T a d e c.args.at c.args.key.now c.args.i c.args.cut c.args.word c.in_ok-right.right c.args.at c.args.i leaf c.requires.cut c.requires.meta parts c.make_edit.ensures.edits c.in_ok-make_edit.ensures.edited (inr refl) t c.requires.readable c.requires.side refl refl limit in
    subst (PutsFor a.pages e.pages (half_of a.page_size) limit c.args.at c.args.key.now c.args.word)
    (ap (λ (k : List ℕ). Split (record { from = k; right = c.in_ok-right.right; levels = 0 })) (sym from.0) ∙ sym c.split_off.ensures) puts

pub returns-in_err-item-clause-cause : goal.returns-in_err-item-clause-cause
returns-in_err-item-clause-cause g c =
    let T = g.P.Pages.tells in
    let a = g.P.Pages.seen c.args.pages.now in
    let p = err_from_is_err_and c.from_residual.result c.from_residual.ensures.1 in
    disk_passed T a a (g.P.Pages.seen c.item_at.new.pages) c.item_at.result c.from_residual.result c.in_err-item.field-0.0 p.0 c.in_err-item.was p.1 p.2 (omega arith) c.item_at.ensures.cause

pub returns-in_err-right-clause-cause : goal.returns-in_err-right-clause-cause
returns-in_err-right-clause-cause g c =
    let T = g.P.Pages.tells in
    let a = g.P.Pages.seen c.args.pages.now in
    let b = g.P.Pages.seen c.item_at.new.pages in
    let d = g.P.Pages.seen c.part_leaf.new.pages in
    let p = err_from_is_err_and c.from_residual-in_err-right.result c.from_residual-in_err-right.ensures.1 in
    cause_passed T a d c.part_leaf.result c.from_residual-in_err-right.result c.in_err-right.field-0.0 p.0 c.in_err-right.was p.1 p.2 (cause_looked T a b d 0 c.part_leaf.result c.requires.meta c.item_at.ensures.looks c.part_leaf.ensures.cause)

pub returns-in_err-make_edit-clause-cause : goal.returns-in_err-make_edit-clause-cause
returns-in_err-make_edit-clause-cause g c =
    let T = g.P.Pages.tells in
    let a = g.P.Pages.seen c.args.pages.now in
    let b = g.P.Pages.seen c.item_at.new.pages in
    let d = g.P.Pages.seen c.part_leaf.new.pages in
    let leaf = c.requires.leaf in
    let parts = parts_looked T a b d c.args.at leaf.page c.args.cut c.in_ok-right.right c.item_at.ensures.looks (c.in_ok-right.ensures.parts leaf.page (c.item_at.ensures.looks.pages c.args.at (inr leaf.in_hand.known) ∙ leaf.in_hand.page)) in
    let p = err_from_is_err_and c.from_residual-in_err-make_edit.result c.from_residual-in_err-make_edit.ensures.1 in
    disk_passed T a d (g.P.Pages.seen c.make_edit.new.pages) c.make_edit.result c.from_residual-in_err-make_edit.result c.in_err-make_edit.field-0.0 p.0 c.in_err-make_edit.was p.1 p.2 parts.edits.same.faults c.make_edit.ensures.cause

pub returns-clause-kept : goal.returns-clause-kept
returns-clause-kept g c =
    let k = g.met.P.Pages.kept_then in
    k c.args.pages.now c.part_leaf.new.pages c.make_edit.new.pages (k c.args.pages.now c.item_at.new.pages c.part_leaf.new.pages c.item_at.ensures.kept c.part_leaf.ensures.kept) c.make_edit.ensures.kept

pub returns-clause-levels : goal.returns-clause-levels
returns-clause-levels g c =
    let T = g.P.Pages.tells in
    let a = g.P.Pages.seen c.args.pages.now in
    let leaf = c.requires.leaf in
    let b = g.P.Pages.seen c.item_at.new.pages in
    let d = g.P.Pages.seen c.part_leaf.new.pages in
    let parts = parts_looked T a b d c.args.at leaf.page c.args.cut c.in_ok-right.right c.item_at.ensures.looks (c.in_ok-right.ensures.parts leaf.page (c.item_at.ensures.looks.pages c.args.at (inr leaf.in_hand.known) ∙ leaf.in_hand.page)) in
    subst (HasLevels 1) (sym c.split_off.ensures) (omega arith, parts.some)

pub returns-in_err-right-clause-sound : goal.returns-in_err-right-clause-sound
returns-in_err-right-clause-sound g c = λ may.
    let p = err_from_is_err_and c.from_residual-in_err-right.result c.from_residual-in_err-right.ensures.1 in
    no_bad_passed c.part_leaf.result c.from_residual-in_err-right.result c.in_err-right.field-0.0 p.0 c.in_err-right.was p.1 p.2
    (c.part_leaf.ensures.sound (may_take_looked g.P.Pages.tells (g.P.Pages.seen c.args.pages.now) (g.P.Pages.seen c.item_at.new.pages) 0 c.item_at.ensures.looks may))
