use Rattle.pm_bench.proofs.NotedChanges.{looks_note, then_note}
use Rattle.pm_bench.proofs.worker_pages.tree_steps.place_over.Goals as goal

pub returns-in-Ok-clause-notes : goal.returns-in-Ok-clause-notes
returns-in-Ok-clause-notes g c =
    then_note g.P.Pages.tells (g.P.Pages.seen c.args.pages.now) (g.P.Pages.seen c.find_number.new.pages) (g.P.Pages.seen c.find_place.new.pages) 1 c.find_number.ensures.looks
    (looks_note g.P.Pages.tells _ _ 1 c.find_place.ensures.looks)
