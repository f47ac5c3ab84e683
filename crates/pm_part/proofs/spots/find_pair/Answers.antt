use Rattle.pm_pages.proofs.ReadablePages.{readable_asked}
use Rattle.pm_part.proofs.spots.find_pair.Goals as goal

pub returns-in_ok-pair_on-in-Some-clause-readable : goal.returns-in_ok-pair_on-in-Some-clause-readable
returns-in_ok-pair_on-in-Some-clause-readable g c =
    readable_asked g.P.Pages.tells (g.P.Pages.seen c.args.pages.now) (g.P.Pages.seen c.view.follows.lender-at-none) c.args.spot.at c.requires.readable c.view.follows.holds-at-none.1
