use Rattle.std.proofs.Common.{[]}
use Rattle.pm_pages.proofs.EditedPages.{edits_lent}
use Rattle.pm_tree.specs.declared.edits.Edit.TheVariants.{Word}
use Rattle.pm_tree.specs.Edits.{EditsNode}
use Rattle.pm_tree.proofs.NodeEdits.{readable_rewritten}
use Rattle.pm_part.proofs.relinking.set_lent.Goals as goal

pub returns-clause-edits : goal.returns-clause-edits
returns-clause-edits g c =
    edits_lent g.P.Pages.tells (g.P.Pages.seen c.args.pages.now) (g.P.Pages.seen c.put_word.new.pages) (g.P.Pages.seen c.note.new.self) c.args.at _ c.put_word.new.patch
    (λ was now. EditsNode was [] (Word c.args.i c.args.word) now) c.put_word.ensures.writes c.note.ensures.notes

pub returns-clause-readable : goal.returns-clause-readable
returns-clause-readable g c =
    readable_rewritten g.P.Pages.tells (g.P.Pages.seen c.args.pages.now) (g.P.Pages.seen c.put_word.new.pages) (g.P.Pages.seen c.note.new.self) c.args.at _ c.put_word.new.patch
    (λ was now. EditsNode was [] (Word c.args.i c.args.word) now) c.requires.takes.some c.requires.readable c.put_word.ensures.writes c.put_word.ensures.writes.changed.well_made c.note.ensures.notes
