use Rattle.std.proofs.lemmas.Result.{IfOk-weaker}
use Rattle.pm_types.specs.Ids.{page_id}
use Rattle.pm_free.proofs.PlacedPages.{empty_takes, fills_page, edits_twice}
use Rattle.pm_free.proofs.placing.fill_page.Goals as goal

pub make_edit-requires-clause-takes : goal.make_edit-requires-clause-takes
make_edit-requires-clause-takes g c =
    empty_takes (g.P.Pages.seen c.write_empty.new.pages) c.args.at (page_id (g.P.Pages.seen c.args.pages.now).part c.args.at) c.args.row.now c.requires.some c.write_empty.ensures.empty c.requires.row

pub returns-clause-edits : goal.returns-clause-edits
returns-clause-edits g c =
    edits_twice g.P.Pages.tells (g.P.Pages.seen c.args.pages.now) (g.P.Pages.seen c.write_empty.new.pages) (g.P.Pages.seen c.make_edit.new.pages) c.args.at c.write_empty.ensures.edits c.make_edit.ensures.edits

pub returns-clause-page : goal.returns-clause-page
returns-clause-page g c =
    IfOk-weaker c.make_edit.result _ _ (λ item takes. fills_page g.P.Pages.tells (g.P.Pages.seen c.args.pages.now) (g.P.Pages.seen c.write_empty.new.pages) (g.P.Pages.seen c.make_edit.new.pages) c.args.at item c.args.row.now c.write_empty.ensures.edits c.make_edit.ensures.edits c.write_empty.ensures.empty takes) c.make_edit.ensures.edited
