use Rattle.pm_pages.proofs.EditedPages.{edits_lent}
use Rattle.pm_tree_del.specs.Items.{TakesOut}
use Rattle.pm_tree_del.proofs.items.take_lent.Goals as goal

pub returns-clause-edits : goal.returns-clause-edits
returns-clause-edits g c =
    edits_lent g.P.Pages.tells (g.P.Pages.seen c.args.pages.now) (g.P.Pages.seen c.put_without-few.new.pages) (g.P.Pages.seen c.note.new.self) c.args.at _ c.put_without-few.new.patch
    (λ was now. TakesOut was now c.args.i c.put_without-few.result) c.put_without-few.ensures.writes c.note.ensures.notes
