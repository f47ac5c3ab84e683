use Rattle.pm_pages.proofs.ReadablePages.{readable_asked}
use Rattle.pm_bench.proofs.worker_pages.operations.has_bytes.Goals as goal

pub returns-in-Ok-Some-clause-readable : goal.returns-in-Ok-Some-clause-readable
returns-in-Ok-Some-clause-readable g c =
    readable_asked g.P.Pages.tells (g.P.Pages.seen c.args.pages.now) (g.P.Pages.seen c.view.follows.lender-at-none) c.args.index c.requires.readable c.view.follows.holds-at-none.1
