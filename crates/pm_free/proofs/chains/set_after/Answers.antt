use Rattle.std.proofs.Common.{arith}
use Rattle.std.proofs.lemmas.Result.{on_ok_weaker}
use Rattle.pm_free.proofs.Changed.{changes_as}
use Rattle.pm_free.proofs.chains.set_after.Goals as goal

pub returns-then-at-eq0-clause-sets : goal.returns-then-at-eq0-clause-sets
returns-then-at-eq0-clause-sets g c =
    let T = g.P.Pages.tells in
    let a = g.P.Pages.seen c.args.pages.now in
    on_ok_weaker c.set_head.result (λ sets. changes_as T a (g.P.Pages.seen c.set_head.new.pages) 0 0 _ _ (omega arith) (λ x y e. record { none = λ z. e; some = λ s. absurd (s c.if-at-eq0.true) }) sets) c.set_head.ensures.sets

pub returns-clause-sets : goal.returns-clause-sets
returns-clause-sets g c =
    let T = g.P.Pages.tells in
    let a = g.P.Pages.seen c.args.pages.now in
    on_ok_weaker c.set_page.result (λ sets. changes_as T a (g.P.Pages.seen c.set_page.new.pages) 0 0 _ _ (omega arith) (λ x y e. record { none = λ z. absurd (c.if-at-eq0.false z); some = λ s. e }) sets) c.set_page.ensures.sets
