use Rattle.std.proofs.Common.{◌≡◌, true, Ok, Err, refl, sym, ap, subst, ◌∙◌}
use Rattle.pm_types.specs.declared.fault.StoreFault.{StoreFault}
use Rattle.pm_types.specs.declared.fault.StoreFault.TheVariants.{Failed as StoreFailed}
use Rattle.pm_disk.specs.declared.failed.Failed.{Failed}
use Rattle.pm_engine.specs.FrameDirty.{dirty_names, dirty_bytes}
use Rattle.pm_engine.specs.FrameReplayCheckpoints.{ChecksInFrames}
use Rattle.pm_engine.specs.Engines.{FrameRunning, IsEngine}
use Rattle.pm_engine.specs.FrameStores.{HasCleanPages}
use Rattle.pm_engine.proofs.CheckedReplays.{engine_checked, checks_made, checks_closed}
use Rattle.pm_engine.proofs.engine.Engine.checkpoint_from.Goals as goal

pub invariant_of-self-in-Ok : goal.invariant_of-self-in-Ok
invariant_of-self-in-Ok g c =
    let ins : FrameRunning = record { store = c.self.inside.pages; log = c.deref_mut.result.now; ckpt = c.self.inside.ckpt; began = c.self.inside.began; order = c.self.inside.order.items } in
    let lent : ins ≡ (record ins { log = c.self.inside.log.value }) = λ i. record ins { log = c.deref_mut.ensures.value i } in
    let is = lent ∙ c.self.view_is in
    let after : FrameRunning = record { store = c.checkpoint.new.self; log = c.checkpoint.new.log; ckpt = c.checkpoint.new.ckpt; began = record { found = 0; total = c.appended-total.result }; order = c.self.inside.order.items } in
    let opened : ins.store.is_open ≡ true = ap (λ (r : FrameRunning). r.store.is_open) is ∙ c.requires.is_open in
    let made = c.in-Ok.ensures in
    engine_checked ins (subst IsEngine (sym lent) c.self.invariant) c.args.replay c.requires.replay (dirty_names ins.store) (dirty_bytes ins.store) made.dirty (g.H.Device.history c.args.host.now) (g.H.Device.history c.checkpoint.new.host) g.H.Device.tells after opened made.mark made.made.next made.made.pages

pub returns-in-Ok-clause-checks : goal.returns-in-Ok-clause-checks
returns-in-Ok-clause-checks g c =
    let ins : FrameRunning = record { store = c.self.inside.pages; log = c.deref_mut.result.now; ckpt = c.self.inside.ckpt; began = c.self.inside.began; order = c.self.inside.order.items } in
    let lent : ins ≡ (record ins { log = c.self.inside.log.value }) = λ i. record ins { log = c.deref_mut.ensures.value i } in
    let is = lent ∙ c.self.view_is in
    let old = g.H.Device.history c.args.host.now in
    let new = g.H.Device.history c.checkpoint.new.host in
    let after : FrameRunning = record { store = c.checkpoint.new.self; log = c.checkpoint.new.log; ckpt = c.checkpoint.new.ckpt; began = record { found = 0; total = c.appended-total.result }; order = c.self.inside.order.items } in
    let clean = λ (t : g.H.Device.tells). subst (λ (r : FrameRunning). HasCleanPages r.store old.world) (sym is) (c.requires.clean t) in
    let opened : ins.store.is_open ≡ true = ap (λ (r : FrameRunning). r.store.is_open) is ∙ c.requires.is_open in
    let made = c.in-Ok.ensures in
    subst (λ (r : FrameRunning). ChecksInFrames {T = Unit {0}} {E = StoreFault} g.H.Device.tells c.args.replay r after old new (Ok tt)) is
    (checks_made ins (subst IsEngine (sym lent) c.self.invariant) c.args.replay c.requires.replay (dirty_names ins.store) (dirty_bytes ins.store) made.dirty old new g.H.Device.tells made.disk {T = Unit {0}} {E = Failed} {F = StoreFault} tt tt made.steps after made.made.next made.made.pages clean refl opened made.made.ends)

pub returns-in-Err-clause-checks : goal.returns-in-Err-clause-checks
returns-in-Err-clause-checks g c =
    let ins : FrameRunning = record { store = c.self.inside.pages; log = c.deref_mut.result.now; ckpt = c.self.inside.ckpt; began = c.self.inside.began; order = c.self.inside.order.items } in
    let lent : ins ≡ (record ins { log = c.self.inside.log.value }) = λ i. record ins { log = c.deref_mut.ensures.value i } in
    let is = lent ∙ c.self.view_is in
    let old = g.H.Device.history c.args.host.now in
    let new = g.H.Device.history c.checkpoint.new.host in
    let after : FrameRunning = record { store = c.checkpoint.new.self; log = c.checkpoint.new.log; ckpt = c.checkpoint.new.ckpt; began = ins.began; order = c.self.inside.order.items } in
    let made = c.in-Err.ensures in
    subst (λ (r : FrameRunning). ChecksInFrames {T = Unit {0}} {E = StoreFault} g.H.Device.tells c.args.replay r after old new (Err StoreFailed)) is
    (checks_closed ins (subst IsEngine (sym lent) c.self.invariant) c.args.replay c.requires.replay (dirty_names ins.store) (dirty_bytes ins.store) made.dirty old new g.H.Device.tells made.disk {T = Unit {0}} {E = Failed} (Err c.in-Err.field-0) (Err StoreFailed) refl made.steps after made.failed.closed refl)
