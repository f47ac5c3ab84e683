use Rattle.pm_free.proofs.PlacedPages.{has_row}
use Rattle.pm_tests_pages.proofs.free_lists.take_from.Goals as goal

pub take_out-requires-clause-row : goal.take_out-requires-clause-row
take_out-requires-clause-row g c =
    let live = c.in_ok-is_live.ensures.live c.if-not-branch.false in
    has_row g.P.Pages.tells (g.P.Pages.seen c.args.pages.now) (g.P.Pages.seen c.is_live.new.pages) 0 c.args.at c.item.result live.0 c.args.link c.requires.meta c.requires.page c.is_live.ensures.looks live.1 live.2 c.item.ensures c.requires.at c.requires.name

pub exchange-requires-clause-there : goal.exchange-requires-clause-there
exchange-requires-clause-there g c =
    let live = c.in_ok-is_live.ensures.live c.if-not-branch.false in
    has_row g.P.Pages.tells (g.P.Pages.seen c.args.pages.now) (g.P.Pages.seen c.is_live.new.pages) 0 c.args.at c.item.result live.0 c.args.link c.requires.meta c.requires.page c.is_live.ensures.looks live.1 live.2 c.item.ensures c.requires.at c.requires.name
