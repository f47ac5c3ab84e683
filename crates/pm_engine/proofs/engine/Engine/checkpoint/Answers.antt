use Rattle.std.proofs.Common.{◌≡◌, ◌+◌, ◌<◌, ◌^◌, Ok, false, refl, sym, subst, ◌∙◌}
use Rattle.pm_types.specs.declared.fault.StoreFault.{StoreFault}
use Rattle.pm_disk.specs.Moments.{AllMoments}
use Rattle.pm_disk.specs.declared.failed.Failed.{Failed}
use Rattle.pm_engine.specs.CheckedEngines.{IsAfterCheckpoint, IsCheckpointedOrClosed, HasPagesInFiles}
use Rattle.pm_engine.specs.FrameDirty.{dirty_names, dirty_bytes}
use Rattle.pm_engine.specs.Engines.{FrameRunning, IsEngine, HasDoneLines}
use Rattle.pm_engine.specs.FrameStores.{HasCleanPages}
use Rattle.pm_engine.specs.RunningStores.{number_of}
use Rattle.pm_engine.specs.RunningLines.{CrashHoldsLines}
use Rattle.pm_engine.specs.RunningStores.{HasSegmentsFor}
use Rattle.pm_engine.proofs.CheckedEngines.{engine_crash, engine_lasts}
use Rattle.pm_engine.proofs.Results.{on_err, err_anyway}
use Rattle.pm_engine.proofs.engine.Engine.checkpoint.Goals as goal

pub returns-clause-engine : goal.returns-clause-engine
returns-clause-engine g c =
    let ins : FrameRunning = record { store = c.self.inside.pages; log = c.deref_mut.result.now; ckpt = c.self.inside.ckpt; began = c.self.inside.began; order = c.self.inside.order.items } in
    let lent : ins ≡ (record ins { log = c.self.inside.log.value }) = λ i. record ins { log = c.deref_mut.ensures.value i } in
    let is = lent ∙ c.self.view_is in
    let after : FrameRunning = record { store = c.checkpoint.new.self; log = c.checkpoint.new.log; ckpt = c.checkpoint.new.ckpt; began = record { found = 0; total = c.appended-total.result }; order = c.self.inside.order.items } in
    let made = c.in_ok-checkpoint.ensures.made in
    subst (λ (r : FrameRunning). IsCheckpointedOrClosed {E = StoreFault} r after (Ok tt)) is (record {
      same = record { shape = made.pages.shape; region = made.pages.region; locks = made.pages.locks };
      order = refl;
      done = record { next = made.next; began = cc };
      closed = tt;
    })

pub returns-clause-pages : goal.returns-clause-pages
returns-clause-pages g c =
    let ins : FrameRunning = record { store = c.self.inside.pages; log = c.deref_mut.result.now; ckpt = c.self.inside.ckpt; began = c.self.inside.began; order = c.self.inside.order.items } in
    let lent : ins ≡ (record ins { log = c.self.inside.log.value }) = λ i. record ins { log = c.deref_mut.ensures.value i } in
    let is = lent ∙ c.self.view_is in
    let old = g.H.Device.history c.args.host.now in
    let new = g.H.Device.history c.checkpoint.new.host in
    let after : FrameRunning = record { store = c.checkpoint.new.self; log = c.checkpoint.new.log; ckpt = c.checkpoint.new.ckpt; began = record { found = 0; total = c.appended-total.result }; order = c.self.inside.order.items } in
    let clean = λ (t : g.H.Device.tells). subst (λ (r : FrameRunning). HasCleanPages r.store old.world) (sym is) (c.requires.clean t) in
    let made = c.in_ok-checkpoint.ensures.made in
    subst (λ (r : FrameRunning). HasPagesInFiles g.H.Device.tells r after old.world new.world) is (record {
      pages = made.pages;
      ready = λ t. record { ends = (made.ends t).ends; clean = made.pages.clean t (clean t) };
    })

pub returns-in_err-checkpoint-clause-engine : goal.returns-in_err-checkpoint-clause-engine
returns-in_err-checkpoint-clause-engine g c =
    let ins : FrameRunning = record { store = c.self.inside.pages; log = c.deref_mut.result.now; ckpt = c.self.inside.ckpt; began = c.self.inside.began; order = c.self.inside.order.items } in
    let lent : ins ≡ (record ins { log = c.self.inside.log.value }) = λ i. record ins { log = c.deref_mut.ensures.value i } in
    let is = lent ∙ c.self.view_is in
    let after : FrameRunning = record { store = c.checkpoint.new.self; log = c.checkpoint.new.log; ckpt = c.checkpoint.new.ckpt; began = ins.began; order = c.self.inside.order.items } in
    let closed = c.in_err-checkpoint.ensures.failed.closed in
    let result = c.from_residual.result in
    subst (λ (r : FrameRunning). IsCheckpointedOrClosed {T = Unit {0}} {E = StoreFault} r after result) is (record {
      same = record { shape = closed.shape; region = closed.region; locks = closed.locks };
      order = refl;
      done = on_err result c.from_residual.ensures.0 (IsAfterCheckpoint ins after);
      closed = err_anyway result (after.store.is_open ≡ false) closed.is_open;
    })

pub returns-clause-lines : goal.returns-clause-lines
returns-clause-lines g c t wanted told low start lines has segments numbered =
    let ins : FrameRunning = record { store = c.self.inside.pages; log = c.deref_mut.result.now; ckpt = c.self.inside.ckpt; began = c.self.inside.began; order = c.self.inside.order.items } in
    let lent : ins ≡ (record ins { log = c.self.inside.log.value }) = λ i. record ins { log = c.deref_mut.ensures.value i } in
    let is = lent ∙ c.self.view_is in
    let old = g.H.Device.history c.args.host.now in
    let new = g.H.Device.history c.checkpoint.new.host in
    let has_in = subst (λ (r : FrameRunning). HasDoneLines wanted told low start lines r old.world) (sym is) has in
    let segments_in = subst (λ (r : FrameRunning). HasSegmentsFor r.log 1) (sym is) segments in
    let numbered_in = subst (λ (r : FrameRunning). number_of r.ckpt.mark + 1 < 2 ^ 64) (sym is) numbered in
    let after : FrameRunning = record { store = c.checkpoint.new.self; log = c.checkpoint.new.log; ckpt = c.checkpoint.new.ckpt; began = record { found = 0; total = c.appended-total.result }; order = c.self.inside.order.items } in
    let clean = subst (λ (r : FrameRunning). HasCleanPages r.store old.world) (sym is) (c.requires.clean t) in
    let made = c.in_ok-checkpoint.ensures in
    engine_lasts g.H.Device.tells t ins after (subst IsEngine (sym lent) c.self.invariant) (dirty_names ins.store) (dirty_bytes ins.store) made.dirty old new {E = Failed} tt (made.steps t) made.made.next made.made.pages clean wanted told low start lines has_in segments_in numbered_in

pub returns-clause-crash : goal.returns-clause-crash
returns-clause-crash g c t wanted told low start lines has segments numbered =
    let ins : FrameRunning = record { store = c.self.inside.pages; log = c.deref_mut.result.now; ckpt = c.self.inside.ckpt; began = c.self.inside.began; order = c.self.inside.order.items } in
    let lent : ins ≡ (record ins { log = c.self.inside.log.value }) = λ i. record ins { log = c.deref_mut.ensures.value i } in
    let is = lent ∙ c.self.view_is in
    let old = g.H.Device.history c.args.host.now in
    let new = g.H.Device.history c.checkpoint.new.host in
    let has_in = subst (λ (r : FrameRunning). HasDoneLines wanted told low start lines r old.world) (sym is) has in
    let segments_in = subst (λ (r : FrameRunning). HasSegmentsFor r.log 1) (sym is) segments in
    let numbered_in = subst (λ (r : FrameRunning). number_of r.ckpt.mark + 1 < 2 ^ 64) (sym is) numbered in
    let made = c.checkpoint.ensures in
    subst (λ (r : FrameRunning). AllMoments old new (CrashHoldsLines (r.log.end.seg + 2) (number_of r.ckpt.mark + 1) wanted r.store.shape start lines)) is
    (engine_crash ins (subst IsEngine (sym lent) c.self.invariant) (dirty_names ins.store) (dirty_bytes ins.store) made.dirty old new {T = Unit {0}} {E = Failed} c.checkpoint.result (made.steps t) wanted told low start lines has_in segments_in numbered_in)

pub returns-in_err-checkpoint-clause-crash : goal.returns-in_err-checkpoint-clause-crash
returns-in_err-checkpoint-clause-crash g c t wanted told low start lines has segments numbered =
    let ins : FrameRunning = record { store = c.self.inside.pages; log = c.deref_mut.result.now; ckpt = c.self.inside.ckpt; began = c.self.inside.began; order = c.self.inside.order.items } in
    let lent : ins ≡ (record ins { log = c.self.inside.log.value }) = λ i. record ins { log = c.deref_mut.ensures.value i } in
    let is = lent ∙ c.self.view_is in
    let old = g.H.Device.history c.args.host.now in
    let new = g.H.Device.history c.checkpoint.new.host in
    let has_in = subst (λ (r : FrameRunning). HasDoneLines wanted told low start lines r old.world) (sym is) has in
    let segments_in = subst (λ (r : FrameRunning). HasSegmentsFor r.log 1) (sym is) segments in
    let numbered_in = subst (λ (r : FrameRunning). number_of r.ckpt.mark + 1 < 2 ^ 64) (sym is) numbered in
    let made = c.checkpoint.ensures in
    subst (λ (r : FrameRunning). AllMoments old new (CrashHoldsLines (r.log.end.seg + 2) (number_of r.ckpt.mark + 1) wanted r.store.shape start lines)) is
    (engine_crash ins (subst IsEngine (sym lent) c.self.invariant) (dirty_names ins.store) (dirty_bytes ins.store) made.dirty old new {T = Unit {0}} {E = Failed} c.checkpoint.result (made.steps t) wanted told low start lines has_in segments_in numbered_in)
