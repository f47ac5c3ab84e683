use Rattle.pm_tree.proofs.Divided.{before_cut, divided}
use Rattle.pm_pages.proofs.SpareRoom.{take_not_bad}
use Rattle.pm_pages.proofs.SoundPages.{no_bad_passed}
use Rattle.std.proofs.lemmas.Result.{err_from_is_err_and}
use Rattle.pm_tree.proofs.dividing.divide_copied.Goals as goal

pub make_edit-requires-2-clause-takes : goal.make_edit-requires-2-clause-takes
make_edit-requires-2-clause-takes g c =
    before_cut g.P.Pages.tells (g.P.Pages.seen c.args.pages.now) (g.P.Pages.seen c.new_page.new.pages) (g.P.Pages.seen c.write_blank.new.pages) (g.P.Pages.seen c.make_edit.new.pages)
    c.args.at c.in_ok-right.right c.args.copy.now c.args.copy.now c.args.first c.args.start c.args.end c.requires.meta c.requires.page c.in_ok-right.ensures.takes c.write_blank.ensures.edits c.make_edit.ensures.edits

pub returns-in_err-make_edit-2-clause-kept : goal.returns-in_err-make_edit-2-clause-kept
returns-in_err-make_edit-2-clause-kept g c =
    let k = g.met.P.Pages.kept_then in
    k c.args.pages.now c.make_edit.new.pages c.make_edit-2.new.pages
    (k c.args.pages.now c.write_blank.new.pages c.make_edit.new.pages (k c.args.pages.now c.new_page.new.pages c.write_blank.new.pages c.new_page.ensures.kept c.write_blank.ensures.kept) c.make_edit.ensures.kept)
    c.make_edit-2.ensures.kept

pub returns-clause-kept : goal.returns-clause-kept
returns-clause-kept g c =
    let k = g.met.P.Pages.kept_then in
    k c.args.pages.now c.make_edit.new.pages c.make_edit-2.new.pages
    (k c.args.pages.now c.write_blank.new.pages c.make_edit.new.pages (k c.args.pages.now c.new_page.new.pages c.write_blank.new.pages c.new_page.ensures.kept c.write_blank.ensures.kept) c.make_edit.ensures.kept)
    c.make_edit-2.ensures.kept

pub returns-clause-divides : goal.returns-clause-divides
returns-clause-divides g c =
    divided g.P.Pages.tells (g.P.Pages.seen c.args.pages.now) (g.P.Pages.seen c.new_page.new.pages) (g.P.Pages.seen c.write_blank.new.pages) (g.P.Pages.seen c.make_edit.new.pages) (g.P.Pages.seen c.make_edit-2.new.pages)
    c.args.at c.in_ok-right.right c.args.copy.now c.args.first c.args.start c.args.end c.requires.meta c.requires.page c.in_ok-right.ensures.takes
    c.write_blank.ensures.edits c.write_blank.ensures.node c.make_edit.ensures.edits c.in_ok-make_edit.ensures.edited c.make_edit-2.ensures.edits c.in_ok-make_edit-2.ensures.edited

pub returns-in_err-right-clause-sound : goal.returns-in_err-right-clause-sound
returns-in_err-right-clause-sound g c = λ may.
    let p = err_from_is_err_and c.from_residual.result c.from_residual.ensures.1 in
    no_bad_passed c.new_page.result c.from_residual.result c.in_err-right.field-0.0 p.0 c.in_err-right.was p.1 p.2
    (take_not_bad g.P.Pages.tells (g.P.Pages.seen c.args.pages.now) (g.P.Pages.seen c.new_page.new.pages) 1 c.new_page.result may c.new_page.ensures.unchanged c.new_page.ensures.cause)

pub returns-in_err-make_edit-clause-kept : goal.returns-in_err-make_edit-clause-kept
returns-in_err-make_edit-clause-kept g c =
    let k = g.met.P.Pages.kept_then in
    k c.args.pages.now c.write_blank.new.pages c.make_edit.new.pages (k c.args.pages.now c.new_page.new.pages c.write_blank.new.pages c.new_page.ensures.kept c.write_blank.ensures.kept) c.make_edit.ensures.kept

pub make_edit-requires-2-clause-ready : goal.make_edit-requires-2-clause-ready
make_edit-requires-2-clause-ready g c =
    let k = g.met.P.Pages.kept_then in
    g.met.P.Pages.kept_ready c.args.pages.now c.make_edit.new.pages
    (k c.args.pages.now c.write_blank.new.pages c.make_edit.new.pages (k c.args.pages.now c.new_page.new.pages c.write_blank.new.pages c.new_page.ensures.kept c.write_blank.ensures.kept) c.make_edit.ensures.kept)
    c.requires.ready
