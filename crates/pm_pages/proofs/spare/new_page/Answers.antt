use Rattle.std.proofs.lemmas.Result.{IfOk-weaker}
use Rattle.pm_pages.proofs.EditedPages.{looks_then}
use Rattle.pm_pages.proofs.TakenPages.{takes_looked, cause_looked}
use Rattle.pm_pages.proofs.spare.new_page.Goals as goal

pub returns-then-head-eq0-clause-takes : goal.returns-then-head-eq0-clause-takes
returns-then-head-eq0-clause-takes g c =
    let T = g.P.Pages.tells in
    let a = g.P.Pages.seen c.args.pages.now in
    let b = g.P.Pages.seen c.number.new.pages in
    let d = g.P.Pages.seen c.number-2.new.pages in
    let looks = looks_then T a b d 0 0 c.number.ensures.looks c.number-2.ensures.looks in
    IfOk-weaker c.next_page.result _ _ (λ i takes. takes_looked T a d (g.P.Pages.seen c.next_page.new.pages) 0 1 i c.requires.meta looks takes) c.next_page.ensures.takes

pub returns-then-head-eq0-clause-cause : goal.returns-then-head-eq0-clause-cause
returns-then-head-eq0-clause-cause g c =
    let T = g.P.Pages.tells in
    let a = g.P.Pages.seen c.args.pages.now in
    let b = g.P.Pages.seen c.number.new.pages in
    let d = g.P.Pages.seen c.number-2.new.pages in
    let looks = looks_then T a b d 0 0 c.number.ensures.looks c.number-2.ensures.looks in
    cause_looked T a d (g.P.Pages.seen c.next_page.new.pages) 0 c.next_page.result c.requires.meta looks c.next_page.ensures.cause

pub returns-else-head-eq0-clause-takes : goal.returns-else-head-eq0-clause-takes
returns-else-head-eq0-clause-takes g c =
    let T = g.P.Pages.tells in
    let a = g.P.Pages.seen c.args.pages.now in
    let b = g.P.Pages.seen c.number.new.pages in
    let d = g.P.Pages.seen c.number-2.new.pages in
    let looks = looks_then T a b d 0 0 c.number.ensures.looks c.number-2.ensures.looks in
    IfOk-weaker c.reused_page.result _ _ (λ i takes. takes_looked T a d (g.P.Pages.seen c.reused_page.new.pages) 0 1 i c.requires.meta looks takes) c.reused_page.ensures.takes

pub returns-else-head-eq0-clause-cause : goal.returns-else-head-eq0-clause-cause
returns-else-head-eq0-clause-cause g c =
    let T = g.P.Pages.tells in
    let a = g.P.Pages.seen c.args.pages.now in
    let b = g.P.Pages.seen c.number.new.pages in
    let d = g.P.Pages.seen c.number-2.new.pages in
    let looks = looks_then T a b d 0 0 c.number.ensures.looks c.number-2.ensures.looks in
    cause_looked T a d (g.P.Pages.seen c.reused_page.new.pages) 0 c.reused_page.result c.requires.meta looks c.reused_page.ensures.cause
