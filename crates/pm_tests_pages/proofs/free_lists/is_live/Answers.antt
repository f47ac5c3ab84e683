use Rattle.pm_pages.proofs.ReadablePages.{readable_asked}
use Rattle.pm_tests_pages.proofs.free_lists.is_live.Goals as goal

pub returns-in-Some-clause-readable : goal.returns-in-Some-clause-readable
returns-in-Some-clause-readable g c =
    readable_asked g.P.Pages.tells (g.P.Pages.seen c.args.pages.now) (g.P.Pages.seen c.view.follows.lender-at-none) c.args.at c.requires.readable c.view.follows.holds-at-none.1
