use Rattle.std.proofs.Common.{◌≡◌, ◌+◌, Ok, sym, ◌∙◌, ap, subst}
use Rattle.pm_disk.specs.Moments.{AllMoments}
use Rattle.pm_segments.specs.Ends.{LogEnd, EndsThere}
use Rattle.pm_engine.specs.Engines.{FrameRunning, IsEngine, HasDoneLines, HasLastingLinesIn, AllLastIn, closed_engine}
use Rattle.pm_engine.specs.FrameForces.{ReadsAsBefore}
use Rattle.pm_engine.specs.FrameStores.{FrameStoreView}
use Rattle.pm_engine.specs.RunningStores.{number_of}
use Rattle.pm_engine.specs.RunningLines.{CrashHoldsLines}
use Rattle.pm_engine.proofs.FrameForces.{forced_ends, forced_disk, forced_pages, forced_clean, forced_lasts, forced_rests, forced_crash, engine_closed}
use Rattle.pm_engine.proofs.engine.Engine.force.Goals as goal

pub returns-in-Err-clause-crash : goal.returns-in-Err-clause-crash
returns-in-Err-clause-crash g c t wanted told low start lines has =
    let ins : FrameRunning = record { store = c.self.inside.pages; log = c.deref_mut.result.now; ckpt = c.self.inside.ckpt; began = c.self.inside.began; order = c.self.inside.order.items } in
    let lent : ins ≡ (record ins { log = c.self.inside.log.value }) = λ i. record ins { log = c.deref_mut.ensures.value i } in
    let is = lent ∙ c.self.view_is in
    let old = g.H.Device.history c.args.host.now in
    let new = g.H.Device.history c.force.new.dev in
    subst (λ (r : FrameRunning). AllMoments old new (CrashHoldsLines (r.log.end.seg + 1) (number_of r.ckpt.mark) wanted r.store.shape start lines)) is
    (forced_crash ins old new (g.H.Device.sound c.args.host.now t) c.force.result (c.force.ensures.does t) wanted told low start lines
    (subst (λ (r : FrameRunning). HasDoneLines wanted told low start lines r old.world) (sym is) has))

pub returns-in-Err-clause-disk : goal.returns-in-Err-clause-disk
returns-in-Err-clause-disk g c t =
    let ins : FrameRunning = record { store = c.self.inside.pages; log = c.deref_mut.result.now; ckpt = c.self.inside.ckpt; began = c.self.inside.began; order = c.self.inside.order.items } in
    forced_disk ins (g.H.Device.history c.args.host.now) (g.H.Device.history c.force.new.dev) (g.H.Device.sound c.args.host.now t) c.force.result (c.force.ensures.does t)

pub returns-in-Ok-clause-crash : goal.returns-in-Ok-clause-crash
returns-in-Ok-clause-crash g c t wanted told low start lines has =
    let ins : FrameRunning = record { store = c.self.inside.pages; log = c.deref_mut.result.now; ckpt = c.self.inside.ckpt; began = c.self.inside.began; order = c.self.inside.order.items } in
    let lent : ins ≡ (record ins { log = c.self.inside.log.value }) = λ i. record ins { log = c.deref_mut.ensures.value i } in
    let is = lent ∙ c.self.view_is in
    let old = g.H.Device.history c.args.host.now in
    let new = g.H.Device.history c.force.new.dev in
    subst (λ (r : FrameRunning). AllMoments old new (CrashHoldsLines (r.log.end.seg + 1) (number_of r.ckpt.mark) wanted r.store.shape start lines)) is
    (forced_crash ins old new (g.H.Device.sound c.args.host.now t) c.force.result (c.force.ensures.does t) wanted told low start lines
    (subst (λ (r : FrameRunning). HasDoneLines wanted told low start lines r old.world) (sym is) has))

pub returns-in-Ok-clause-disk : goal.returns-in-Ok-clause-disk
returns-in-Ok-clause-disk g c t =
    let ins : FrameRunning = record { store = c.self.inside.pages; log = c.deref_mut.result.now; ckpt = c.self.inside.ckpt; began = c.self.inside.began; order = c.self.inside.order.items } in
    forced_disk ins (g.H.Device.history c.args.host.now) (g.H.Device.history c.force.new.dev) (g.H.Device.sound c.args.host.now t) c.force.result (c.force.ensures.does t)

pub returns-in-Ok-clause-lasts : goal.returns-in-Ok-clause-lasts
returns-in-Ok-clause-lasts g c t wanted told low start lines has =
    let ins : FrameRunning = record { store = c.self.inside.pages; log = c.deref_mut.result.now; ckpt = c.self.inside.ckpt; began = c.self.inside.began; order = c.self.inside.order.items } in
    let lent : ins ≡ (record ins { log = c.self.inside.log.value }) = λ i. record ins { log = c.deref_mut.ensures.value i } in
    let is = lent ∙ c.self.view_is in
    let old = g.H.Device.history c.args.host.now in
    let new = g.H.Device.history c.force.new.dev in
    let now : FrameRunning = record { store = ins.store; log = c.force.new.self; ckpt = ins.ckpt; began = ins.began; order = ins.order } in
    let same : now ≡ ins = λ i. record { store = ins.store; log = c.force.ensures.unmoved i; ckpt = ins.ckpt; began = ins.began; order = ins.order } in
    subst (λ (r : FrameRunning). HasLastingLinesIn wanted told low start lines r new.world) (sym same)
    (forced_lasts ins old new (g.H.Device.sound c.args.host.now t) (Ok tt) (c.in-Ok.ensures.does t) wanted told low start lines
    (subst (λ (r : FrameRunning). HasDoneLines wanted told low start lines r old.world) (sym is) has))

pub returns-in-Ok-clause-rests : goal.returns-in-Ok-clause-rests
returns-in-Ok-clause-rests g c t wanted told low start lines has =
    let ins : FrameRunning = record { store = c.self.inside.pages; log = c.deref_mut.result.now; ckpt = c.self.inside.ckpt; began = c.self.inside.began; order = c.self.inside.order.items } in
    let lent : ins ≡ (record ins { log = c.self.inside.log.value }) = λ i. record ins { log = c.deref_mut.ensures.value i } in
    let is = lent ∙ c.self.view_is in
    let old = g.H.Device.history c.args.host.now in
    let new = g.H.Device.history c.force.new.dev in
    let now : FrameRunning = record { store = ins.store; log = c.force.new.self; ckpt = ins.ckpt; began = ins.began; order = ins.order } in
    let same : now ≡ ins = λ i. record { store = ins.store; log = c.force.ensures.unmoved i; ckpt = ins.ckpt; began = ins.began; order = ins.order } in
    subst (λ (r : FrameRunning). AllLastIn wanted told r new.world) (sym same)
    (forced_rests ins old new (g.H.Device.sound c.args.host.now t) (Ok tt) (c.in-Ok.ensures.does t) wanted told low start lines
    (subst (λ (r : FrameRunning). HasDoneLines wanted told low start lines r old.world) (sym is) has))

pub returns-in-Ok-clause-engine : goal.returns-in-Ok-clause-engine
returns-in-Ok-clause-engine g c =
    let ins : FrameRunning = record { store = c.self.inside.pages; log = c.deref_mut.result.now; ckpt = c.self.inside.ckpt; began = c.self.inside.began; order = c.self.inside.order.items } in
    let lent : ins ≡ (record ins { log = c.self.inside.log.value }) = λ i. record ins { log = c.deref_mut.ensures.value i } in
    let is = lent ∙ c.self.view_is in
    let now : FrameRunning = record { store = ins.store; log = c.force.new.self; ckpt = ins.ckpt; began = ins.began; order = ins.order } in
    let same : now ≡ ins = λ i. record { store = ins.store; log = c.force.ensures.unmoved i; ckpt = ins.ckpt; began = ins.began; order = ins.order } in
    record { same = same ∙ is; closed = tt }

pub returns-in-Err-clause-engine : goal.returns-in-Err-clause-engine
returns-in-Err-clause-engine g c =
    let ins : FrameRunning = record { store = c.self.inside.pages; log = c.deref_mut.result.now; ckpt = c.self.inside.ckpt; began = c.self.inside.began; order = c.self.inside.order.items } in
    let lent : ins ≡ (record ins { log = c.self.inside.log.value }) = λ i. record ins { log = c.deref_mut.ensures.value i } in
    let is = lent ∙ c.self.view_is in
    let closed : (record { store = c.shut.new.self; log = c.force.new.self; ckpt = ins.ckpt; began = ins.began; order = ins.order }) ≡ closed_engine ins =
    λ i. record { store = c.shut.ensures i; log = c.force.ensures.unmoved i; ckpt = ins.ckpt; began = ins.began; order = ins.order } in
    record { same = tt; closed = closed ∙ ap closed_engine is }

pub returns-in-Ok-clause-reads : goal.returns-in-Ok-clause-reads
returns-in-Ok-clause-reads g c t =
    let ins : FrameRunning = record { store = c.self.inside.pages; log = c.deref_mut.result.now; ckpt = c.self.inside.ckpt; began = c.self.inside.began; order = c.self.inside.order.items } in
    let lent : ins ≡ (record ins { log = c.self.inside.log.value }) = λ i. record ins { log = c.deref_mut.ensures.value i } in
    let is = lent ∙ c.self.view_is in
    let old = g.H.Device.history c.args.host.now in
    let new = g.H.Device.history c.force.new.dev in
    let now : FrameRunning = record { store = ins.store; log = c.force.new.self; ckpt = ins.ckpt; began = ins.began; order = ins.order } in
    let same : now ≡ ins = λ i. record { store = ins.store; log = c.force.ensures.unmoved i; ckpt = ins.ckpt; began = ins.began; order = ins.order } in
    let does = c.in-Ok.ensures.does t in
    let sound = g.H.Device.sound c.args.host.now t in
    subst (λ (p : FrameRunning × FrameRunning). ReadsAsBefore p.0 p.1 old.world new.world) {x = (ins, ins)} {y = (c.args.self.now, now)} (λ i. (is i, sym same i)) (record {
      ends = forced_ends ins old new sound (Ok tt) does (subst (λ (r : FrameRunning). EndsThere r.log old.world) (sym is) (c.requires.end t));
      pages = forced_pages ins old new sound (Ok tt) does;
      clean = λ clean. forced_clean ins old new sound (Ok tt) does clean;
    })

pub invariant_of-self : goal.invariant_of-self
invariant_of-self g c = subst (λ (p : FrameStoreView × LogEnd). IsEngine (record { store = p.0; log = p.1; ckpt = c.self.inside.ckpt; began = c.self.inside.began; order = c.self.inside.order.items }))
    (λ i. (sym c.shut.ensures i, sym (c.force.ensures.unmoved ∙ c.deref_mut.ensures.value) i)) (engine_closed (record { store = c.self.inside.pages; log = c.self.inside.log.value; ckpt = c.self.inside.ckpt; began = c.self.inside.began; order = c.self.inside.order.items }) c.self.invariant)
