use Rattle.pm_pages.proofs.EditedPages.{edits_written}
use Rattle.pm_tree_del.proofs.copies.write_lent.Goals as goal

pub returns-clause-edits : goal.returns-clause-edits
returns-clause-edits g c =
    edits_written g.P.Pages.tells (g.P.Pages.seen c.args.pages.now) (g.P.Pages.seen c.put_bytes.new.pages) (g.P.Pages.seen c.note.new.self) c.args.index c.requires.takes.was c.args.bytes.now c.args.patch.now
    c.requires.takes.in_hand.page c.put_bytes.ensures.writes c.note.ensures.notes c.requires.takes.outside
