use Rattle.pm_data.specs.DataPages.{data_of}
use Rattle.std.specs.Prelude.{◌≡◌}
use Rattle.pm_pages.proofs.EditedPages.{edits_lent}
use Rattle.pm_free.specs.DataEdits.{EditsData, item_in}
use Rattle.pm_free.proofs.EditedData.{readable_rewritten}
use Rattle.pm_free.proofs.edits.edit_lent.Goals as goal

pub returns-clause-edits : goal.returns-clause-edits
returns-clause-edits g c =
    edits_lent g.P.Pages.tells (g.P.Pages.seen c.args.pages.now) (g.P.Pages.seen c.put_edit-item.new.pages) (g.P.Pages.seen c.note.new.self) c.args.at _ c.put_edit-item.new.patch
    (λ was now. EditsData was c.args.row.now c.args.edit now × (c.put_edit-item.result ≡ item_in (data_of was) c.args.edit)) c.put_edit-item.ensures.writes c.note.ensures.notes

pub returns-clause-readable : goal.returns-clause-readable
returns-clause-readable g c =
    readable_rewritten g.P.Pages.tells (g.P.Pages.seen c.args.pages.now) (g.P.Pages.seen c.put_edit-item.new.pages) (g.P.Pages.seen c.note.new.self) c.args.at _ c.put_edit-item.new.patch
    (λ was now. EditsData was c.args.row.now c.args.edit now × (c.put_edit-item.result ≡ item_in (data_of was) c.args.edit)) c.requires.takes.some c.requires.readable c.put_edit-item.ensures.writes c.put_edit-item.ensures.writes.changed.0.well_made c.note.ensures.notes
