use Rattle.std.proofs.Common.{rules}
use Rattle.pm_pages.specs.Paged.{IsInHand, IsPageIn}
use Rattle.pm_part.proofs.SpotReads.{pushes}
use Rattle.pm_part.proofs.spots.push_at.Goals as goal

pub returns-in-Some-clause-pushed : goal.returns-in-Some-clause-pushed
returns-in-Some-clause-pushed g c = λ some.
    let T = g.P.Pages.tells in
    let a = g.P.Pages.seen c.args.pages.now in
    let b = g.P.Pages.seen c.view.follows.lender-at-none in
    let hand : IsInHand b c.args.spot.at c.in-Some.page.now = search rules in
    let is_page : IsPageIn T a c.args.spot.at c.in-Some.page.now = search rules in
    let pushed = c.push_on.ensures.pushed some in
    pushes T a b c.args.spot c.args.cache c.args.key.now c.in-Some.page.now pushed.0 _ _ c.requires.meta c.requires.some c.requires.below c.view.follows.holds-at-none.1 hand is_page.size pushed.1 pushed.2
