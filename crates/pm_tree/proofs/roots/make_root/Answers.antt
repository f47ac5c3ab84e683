use Rattle.std.proofs.lemmas.Result.{on_ok_weaker}
use Rattle.pm_tree.proofs.NewRoots.{takes_first, makes_root}
use Rattle.pm_pages.proofs.SpareRoom.{take_not_bad}
use Rattle.pm_pages.proofs.SoundPages.{no_bad_passed}
use Rattle.std.proofs.lemmas.Result.{err_from_is_err_and}
use Rattle.pm_tree.proofs.roots.make_root.Goals as goal

pub make_edit-requires-clause-takes : goal.make_edit-requires-clause-takes
make_edit-requires-clause-takes g c =
    takes_first (g.P.Pages.seen c.write_blank.new.pages) c.in_ok-top.top c.args.word c.args.key.now _ c.args.first c.in_ok-top.ensures.takes.some c.requires.key c.write_blank.ensures.node

pub returns-clause-makes : goal.returns-clause-makes
returns-clause-makes g c =
    on_ok_weaker c.set_number.result (λ sets. makes_root g.P.Pages.tells (g.P.Pages.seen c.args.pages.now) (g.P.Pages.seen c.new_page.new.pages) (g.P.Pages.seen c.write_blank.new.pages) (g.P.Pages.seen c.make_edit.new.pages) (g.P.Pages.seen c.set_number.new.pages)
    c.args.cache c.in_ok-top.top c.args.first c.args.key.now c.args.word c.in_ok-top.ensures.takes c.write_blank.ensures.edits c.write_blank.ensures.node c.make_edit.ensures.edits c.in_ok-make_edit.ensures.edited c.set_number.ensures.edits sets) c.set_number.ensures.sets

pub returns-in_err-top-clause-sound : goal.returns-in_err-top-clause-sound
returns-in_err-top-clause-sound g c = λ may.
    let p = err_from_is_err_and c.from_residual.result c.from_residual.ensures.1 in
    no_bad_passed c.new_page.result c.from_residual.result c.in_err-top.field-0.0 p.0 c.in_err-top.was p.1 p.2
    (take_not_bad g.P.Pages.tells (g.P.Pages.seen c.args.pages.now) (g.P.Pages.seen c.new_page.new.pages) 1 c.new_page.result may c.new_page.ensures.unchanged c.new_page.ensures.cause)

pub returns-clause-kept : goal.returns-clause-kept
returns-clause-kept g c =
    let k = g.met.P.Pages.kept_then in
    k c.args.pages.now c.make_edit.new.pages c.set_number.new.pages
    (k c.args.pages.now c.write_blank.new.pages c.make_edit.new.pages (k c.args.pages.now c.new_page.new.pages c.write_blank.new.pages c.new_page.ensures.kept c.write_blank.ensures.kept) c.make_edit.ensures.kept)
    c.set_number.ensures.kept
