use Rattle.std.proofs.Common.{subst}
use Rattle.std.specs.Prelude.{IsTrue, ◌↔◌}
use Rattle.pm_pages.specs.Passes.{PassesAt}
use Rattle.pm_redo.proofs.LoadedPages.{absent, there, fails_there}
use Rattle.pm_redo.proofs.loading.read_page.Goals as goal

pub returns-then-not-branch-clause-page : goal.returns-then-not-branch-clause-page
returns-then-not-branch-clause-page g c told base is =
    let reads = c.in_ok-fill.ensures.reads told base is in
    absent _ _ _ reads c.if-not-branch.true

pub returns-then-not-check_at-clause-bad : goal.returns-then-not-check_at-clause-bad
returns-then-not-check_at-clause-bad g c told base is id err =
    let reads = c.in_ok-fill.ensures.reads told base is in
    let found = there _ _ _ reads c.if-not-branch.false in
    fails_there c.args.shape.now c.args.part c.args.index _ id c.new.result (base c.args.part c.args.index) found err c.new.ensures _ c.if-not-check_at.true
    (subst (λ b. IsTrue c.check_at.result ↔ PassesAt c.args.shape.now.page_size c.args.shape.now.max_rows c.args.part c.args.index b) c.deref.ensures.value c.check_at.ensures)

pub returns-clause-page : goal.returns-clause-page
returns-clause-page g c told base is =
    let reads = c.in_ok-fill.ensures.reads told base is in
    there _ _ _ reads c.if-not-branch.false
