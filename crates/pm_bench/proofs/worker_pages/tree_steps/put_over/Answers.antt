use Rattle.pm_bench.proofs.NotedChanges.{edits_note, then_note}
use Rattle.pm_bench.proofs.worker_pages.tree_steps.put_over.Goals as goal

pub returns-in-Ok-clause-notes : goal.returns-in-Ok-clause-notes
returns-in-Ok-clause-notes g c =
    then_note g.P.Pages.tells (g.P.Pages.seen c.args.pages.now) (g.P.Pages.seen c.find_number.new.pages) (g.P.Pages.seen c.tree_put.new.pages) 1 c.find_number.ensures.looks
    (edits_note g.P.Pages.tells _ _ _ 17 c.in-Ok.ensures.changes.edits)
