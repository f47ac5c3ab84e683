use Rattle.pm_meta.specs.MetaPages.{IsMetaPage}
use Rattle.pm_pages.specs.SparePages.{SetsNumber}
use Rattle.pm_pages.proofs.EditedPages.{edits_lent}
use Rattle.pm_pages.proofs.numbers.set_lent.Goals as goal

pub returns-clause-edits : goal.returns-clause-edits
returns-clause-edits g c =
    edits_lent g.P.Pages.tells (g.P.Pages.seen c.args.pages.now) (g.P.Pages.seen c.put_number.new.pages) (g.P.Pages.seen c.note.new.self) 0 _ c.put_number.new.patch
    (λ was now. SetsNumber was now c.args.slot c.args.value × IsMetaPage now) c.put_number.ensures.writes c.note.ensures.notes
