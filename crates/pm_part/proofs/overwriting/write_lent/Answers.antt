use Rattle.std.proofs.Common.{◌≡◌, length}
use Rattle.pm_data.specs.DataPages.{room_of, AddsRow}
use Rattle.pm_pages.proofs.EditedPages.{edits_lent}
use Rattle.pm_free.proofs.EditedData.{readable_rewritten}
use Rattle.pm_part.proofs.overwriting.write_lent.Goals as goal

pub returns-clause-edits : goal.returns-clause-edits
returns-clause-edits g c =
    edits_lent g.P.Pages.tells (g.P.Pages.seen c.args.pages.now) (g.P.Pages.seen c.put_over.new.pages) (g.P.Pages.seen c.note.new.self) c.args.spot.at _ c.put_over.new.patch
    (λ was now. AddsRow was now c.args.spot.item c.args.row.now × (room_of now ≡ room_of was) × (length now ≡ length was)) c.put_over.ensures.writes c.note.ensures.notes

pub returns-clause-readable : goal.returns-clause-readable
returns-clause-readable g c =
    readable_rewritten g.P.Pages.tells (g.P.Pages.seen c.args.pages.now) (g.P.Pages.seen c.put_over.new.pages) (g.P.Pages.seen c.note.new.self) c.args.spot.at _ c.put_over.new.patch
    (λ was now. AddsRow was now c.args.spot.item c.args.row.now × (room_of now ≡ room_of was) × (length now ≡ length was)) c.requires.item.is.some c.requires.readable c.put_over.ensures.writes c.put_over.ensures.writes.changed.0.well_made c.note.ensures.notes
