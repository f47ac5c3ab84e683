use Rattle.std.proofs.Common.{◌≡◌, true, sym, ◌∙◌, ap, subst}
use Rattle.pm_engine.specs.FrameBatches.{ChecksBetween}
use Rattle.pm_engine.specs.FrameDirty.{ListsDirty, dirty_names, dirty_bytes}
use Rattle.pm_engine.specs.Engines.{FrameRunning}
use Rattle.pm_engine.proofs.FrameSettled.{checks_failed, checks_made}
use Rattle.pm_engine.proofs.engine.Engine.checkpoint_between.Goals.{in-Err, in-Ok}
use Rattle.pm_engine.proofs.engine.Engine.checkpoint_between.Goals as goal

pub returns-clause-checks : goal.returns-clause-checks
returns-clause-checks g c =
    let tells = g.H.Device.tells in
    let old = g.H.Device.history c.args.host.now in
    let new = g.H.Device.history c.checkpoint.new.host in
    let before = c.args.self.now in
    let now = c.checkpoint.new.self in
    let e = c.checkpoint.ensures in
    elim c.match-checkpoint.branch [
      | in-Err w ↦ subst (λ r. ChecksBetween tells old new before now r) (sym w.result-is)
          (checks_failed tells old new before now e.engine.same e.engine.order e.disk e.crash w.in-Err.fault w.in-Err.ensures.failed w.in-Err.ensures.engine.closed)
      | in-Ok w ↦
          let it = w.in-Ok.ensures in
          let opens : now.store.is_open ≡ true = it.pages.pages.is_open ∙ c.requires.is_open in
          let inside : c.self.inside.pages.is_open ≡ true = ap (λ (r : FrameRunning). r.store.is_open) c.self.view_is ∙ opens in
          let lists : ListsDirty now.store (dirty_names now.store) (dirty_bytes now.store) =
          subst (λ (r : FrameRunning). ListsDirty r.store (dirty_names r.store) (dirty_bytes r.store)) c.self.view_is (w.names_dirty.ensures inside (c.self.invariant.sent inside)) in
          subst (λ r. ChecksBetween tells old new before now r) (sym w.result-is)
          (checks_made tells old new before now e.engine.same e.engine.order e.disk e.crash it.engine.done opens (λ t. (it.pages.ready t).ends) (λ t. (it.pages.ready t).clean) it.lines it.pages.pages.pages lists it.pages.pages.none_dirty)
    ]
