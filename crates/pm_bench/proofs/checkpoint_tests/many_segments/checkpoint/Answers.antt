use Rattle.std.proofs.Common.{◌∙◌, sym, subst}
use Rattle.pm_segments.specs.Ends.{EndsThere}
use Rattle.pm_engine.specs.FrameOpenings.{IsReadyOver}
use Rattle.pm_engine.specs.FrameStores.{HasCleanPages}
use Rattle.pm_bench.proofs.OpenStores.{stays_open}
use Rattle.pm_bench.specs.declared.checkpoint_tests.framed_stores.TheConstants.{CONFIG}
use Rattle.pm_bench.proofs.checkpoint_tests.many_segments.checkpoint.Goals as goal

pub checkpoint-requires-clause-is_open : goal.checkpoint-requires-clause-is_open
checkpoint-requires-clause-is_open g c _ _ = c.requires.open.is_open

-- looking at the segments changes no file
pub checkpoint-requires-clause-end : goal.checkpoint-requires-clause-end
checkpoint-requires-clause-end g c _ _ t = subst (EndsThere c.args.engine.now.log) (sym (c.in_ok-before.ensures.same t)) (c.requires.open.ready t).ends

pub checkpoint-requires-clause-clean : goal.checkpoint-requires-clause-clean
checkpoint-requires-clause-clean g c _ _ t = subst (HasCleanPages c.args.engine.now.store) (sym (c.in_ok-before.ensures.same t)) (c.requires.open.ready t).clean

pub returns-clause-open : goal.returns-clause-open
returns-clause-open g c =
    let made = c.checkpoint in
    let done = c.in_ok-checkpoint.ensures in
    let old = (g.H.Device.history c.args.host.now).world in
    let new = (g.H.Device.history c.begin_of.new.host).world in
    stays_open g.H.Device.tells CONFIG old new c.args.engine.now made.new.self c.requires.open made.ensures.engine.same (done.pages.pages.is_open ∙ c.requires.open.is_open)
    (λ t. subst (IsReadyOver made.new.self) (sym (c.in_ok-begin.ensures.same t ∙ c.in_ok-after.ensures.same t)) (done.pages.ready t))
