use Rattle.pm_free.proofs.Changed.{edits_page}
use Rattle.pm_free.proofs.chains.set_page.Goals as goal

pub returns-clause-sets : goal.returns-clause-sets
returns-clause-sets g c =
    edits_page g.P.Pages.tells (g.P.Pages.seen c.args.pages.now) (g.P.Pages.seen c.make_edit.new.pages) c.args.at _ c.args.edit _ c.requires.meta c.requires.page c.make_edit.ensures.edits c.in_ok-make_edit.ensures.edited

pub make_edit-requires-clause-takes : goal.make_edit-requires-clause-takes
make_edit-requires-clause-takes g c = (let page = c.requires.page in record { some = page.some; page = page.page; is = page.is; fits = c.requires.fits page.page })
