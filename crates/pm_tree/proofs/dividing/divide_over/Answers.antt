use Rattle.std.proofs.Common.{◌≡◌, ℕ, List, subst, sym, ◌∙◌}
use Rattle.std.proofs.lemmas.Result.{IfOk-weaker}
use Rattle.pm_tree.specs.Divisions.{CanDivide, Divides}
use Rattle.pm_tree.proofs.Divided.{can_looked, divides_looked}
use Rattle.pm_pages.proofs.TakenPages.{cause_looked}
use Rattle.pm_tree.proofs.dividing.divide_over.Goals as goal

pub copy_page-requires-clause-page : goal.copy_page-requires-clause-page
copy_page-requires-clause-page g c =
    let p = c.requires.page in (p.0, p.1.in_hand, p.1.size ∙ sym c.requires.size)

pub divide_copied-requires-clause-page : goal.divide_copied-requires-clause-page
divide_copied-requires-clause-page g c =
    let T = g.P.Pages.tells in
    let a = g.P.Pages.seen c.args.pages.now in
    let b = g.P.Pages.seen c.copy_page.new.pages in
    let p = c.requires.page in
    let same : p.0 ≡ c.copy_page.new.into = cc (p.1.in_hand.page, c.in_ok-copy_page.ensures.copied) in
    subst (λ (q : List ℕ). CanDivide b c.args.at q c.args.first c.args.start c.args.end) same
    (can_looked T a b 0 c.args.at p.0 c.args.first c.args.start c.args.end c.requires.meta c.copy_page.ensures.looks p.1)

pub returns-clause-divides : goal.returns-clause-divides
returns-clause-divides g c =
    let T = g.P.Pages.tells in
    let a = g.P.Pages.seen c.args.pages.now in
    let b = g.P.Pages.seen c.copy_page.new.pages in
    let d = g.P.Pages.seen c.divide_copied.new.pages in
    IfOk-weaker c.divide_copied.result _ _ (λ right divides page is.
    let same : c.copy_page.new.into ≡ page = cc (is, c.in_ok-copy_page.ensures.copied) in
    divides_looked T a b d c.args.at right page c.args.first c.args.start c.args.end c.copy_page.ensures.looks (subst (λ (q : List ℕ). Divides T b d c.args.at q c.args.first c.args.start c.args.end right) same divides)) c.divide_copied.ensures.divides

pub returns-clause-cause : goal.returns-clause-cause
returns-clause-cause g c =
    cause_looked g.P.Pages.tells (g.P.Pages.seen c.args.pages.now) (g.P.Pages.seen c.copy_page.new.pages) (g.P.Pages.seen c.divide_copied.new.pages) 0 c.divide_copied.result c.requires.meta c.copy_page.ensures.looks c.divide_copied.ensures.cause
