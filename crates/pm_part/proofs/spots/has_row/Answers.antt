use Rattle.std.proofs.Common.{rules, sym, ◌∙◌}
use Rattle.pm_pages.specs.Paged.{IsInHand, IsPageIn}
use Rattle.pm_pages.proofs.ReadablePages.{readable_asked}
use Rattle.pm_part.proofs.SpotReads.{some_of, has_row_in}
use Rattle.pm_part.proofs.spots.has_row.Goals as goal

pub returns-in-Some-clause-readable : goal.returns-in-Some-clause-readable
returns-in-Some-clause-readable g c =
    readable_asked g.P.Pages.tells (g.P.Pages.seen c.args.pages.now) (g.P.Pages.seen c.view.follows.lender-at-none) c.args.spot.at c.requires.readable c.view.follows.holds-at-none.1

pub returns-in-Some-clause-has : goal.returns-in-Some-clause-has
returns-in-Some-clause-has g c = λ some.
    let T = g.P.Pages.tells in
    let a = g.P.Pages.seen c.args.pages.now in
    let b = g.P.Pages.seen c.view.follows.lender-at-none in
    let hand : IsInHand b c.args.spot.at c.in-Some.page.now = search rules in
    let is_page : IsPageIn T a c.args.spot.at c.in-Some.page.now = search rules in
    let row = some_of c.row_on.result _ c.row_on.ensures.row (sym c.is_some.ensures ∙ some) in
    has_row_in T a b c.args.spot c.args.cache c.args.key.now c.in-Some.page.now _ c.requires.meta c.requires.some c.requires.below c.view.follows.holds-at-none.1 hand is_page.size row.1
