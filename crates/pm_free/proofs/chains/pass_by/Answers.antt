use Rattle.std.proofs.lemmas.Result.{on_ok_weaker}
use Rattle.pm_free.proofs.Changed.{changes_then}
use Rattle.pm_free.proofs.chains.pass_by.Goals as goal

pub set_before-requires-clause-page : goal.set_before-requires-clause-page
set_before-requires-clause-page g c = λ some. c.in_ok-set_after.ensures.sets.stay c.args.next (c.requires.next some)

pub returns-clause-passes : goal.returns-clause-passes
returns-clause-passes g c =
    on_ok_weaker c.set_before.result (λ sets. changes_then g.P.Pages.tells (g.P.Pages.seen c.args.pages.now) (g.P.Pages.seen c.set_after.new.pages) (g.P.Pages.seen c.set_before.new.pages) 0 0 _ _ _ (λ x y z r s. (y, r, s)) c.in_ok-set_after.ensures.sets sets) c.set_before.ensures.sets
