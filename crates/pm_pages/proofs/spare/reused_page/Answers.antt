use Rattle.std.proofs.lemmas.Result.{IfOk-weaker}
use Rattle.pm_pages.proofs.TakenPages.{takes_looked}
use Rattle.pm_pages.proofs.spare.reused_page.Goals as goal

pub returns-in-Some-clause-takes : goal.returns-in-Some-clause-takes
returns-in-Some-clause-takes g c =
    IfOk-weaker c.take_head.result _ _ (λ i takes. takes_looked g.P.Pages.tells (g.P.Pages.seen c.args.pages.now) (g.P.Pages.seen c.next_after.new.pages) (g.P.Pages.seen c.take_head.new.pages) 1 0 i c.requires.meta c.next_after.ensures.looks takes) c.take_head.ensures.takes
