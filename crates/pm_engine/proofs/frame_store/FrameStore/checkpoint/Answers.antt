use Rattle.std.proofs.Common.{◌≡◌, List, [], None, Ok, Err, true, refl, sym, ap, subst, ◌∙◌}
use Rattle.pm_types.specs.Shapes.{IsShape}
use Rattle.pm_disk.specs.declared.failed.Failed.{Failed}
use Rattle.pm_stripe.specs.declared.stripe.Stripe.{Stripe}
use Rattle.pm_ckpt.specs.Dirty.{LeavesFrames}
use Rattle.pm_ckpt.specs.Marked.{mark_for}
use Rattle.pm_engine.specs.FrameCheckpoints.{IsCheckpointed}
use Rattle.pm_engine.specs.FrameDirty.{ListsDirty, dirty_names, dirty_bytes}
use Rattle.pm_engine.specs.FrameStores.{FrameStoreView, IsOpenStore}
use Rattle.pm_engine.proofs.FrameCheckpoints.{shape_is_one, store_after, checkpointed, makes_by_store}
use Rattle.pm_engine.proofs.FrameDirty.{lists_dirty}
use Rattle.pm_engine.proofs.frame_store.FrameStore.checkpoint.Goals as goal

pub invariant_of-self-in-Ok : goal.invariant_of-self-in-Ok
invariant_of-self-in-Ok g c =
    let ins : FrameStoreView = record { shape = c.self.inside.shape; region = c.self.inside.region; locks = c.self.inside.locks; seat = c.self.inside.seat; stripe = c.self.inside.stripe; dirty = c.self.inside.dirty; is_open = c.self.inside.is_open } in
    let opens : ins.is_open ≡ true = ap (λ (v : FrameStoreView). v.is_open) c.self.view_is ∙ c.requires.open in
    let empty : ins.stripe.outbox ≡ [] = ap (λ (v : FrameStoreView). v.stripe.outbox) c.self.view_is ∙ c.requires.sent in
    let on : IsOpenStore ins = c.self.invariant.open_is opens in
    let old = g.H.Device.history c.args.host.now in
    let new = g.H.Device.history c.whole.new.host in
    let shape : c.args.ckpt.now.shape ≡ ins.shape = c.requires.shape ∙ ap (λ (v : FrameStoreView). v.shape) (sym c.self.view_is) in
    let leaves = subst (λ (xs : List Stripe). LeavesFrames {T = Unit {0}} {E = Failed} g.H.Device.tells ins.locks c.args.ckpt.now.shape old new (Ok tt) ins.seat c.whole.new.seat xs) c.from_ref.ensures.value c.in-Ok.ensures.frames in
    store_after {E = Failed} g.H.Device.tells old new tt c.args.ckpt.now.shape ins c.self.invariant on empty shape c.whole.new.seat leaves c.has_files.new.self c.has_files.ensures.same c.has_files.ensures.files

pub returns-in-Err-clause-mark : goal.returns-in-Err-clause-mark
returns-in-Err-clause-mark g c =
    let ins : FrameStoreView = record { shape = c.self.inside.shape; region = c.self.inside.region; locks = c.self.inside.locks; seat = c.self.inside.seat; stripe = c.self.inside.stripe; dirty = c.self.inside.dirty; is_open = c.self.inside.is_open } in
    let opens : ins.is_open ≡ true = ap (λ (v : FrameStoreView). v.is_open) c.self.view_is ∙ c.requires.open in
    let empty : ins.stripe.outbox ≡ [] = ap (λ (v : FrameStoreView). v.stripe.outbox) c.self.view_is ∙ c.requires.sent in
    let on : IsOpenStore ins = c.self.invariant.open_is opens in
    c.requires.mark (subst (λ (v : FrameStoreView). IsShape v.shape) c.self.view_is (shape_is_one ins on))

pub returns-in-Err-clause-dirty : goal.returns-in-Err-clause-dirty
returns-in-Err-clause-dirty g c =
    let ins : FrameStoreView = record { shape = c.self.inside.shape; region = c.self.inside.region; locks = c.self.inside.locks; seat = c.self.inside.seat; stripe = c.self.inside.stripe; dirty = c.self.inside.dirty; is_open = c.self.inside.is_open } in
    let opens : ins.is_open ≡ true = ap (λ (v : FrameStoreView). v.is_open) c.self.view_is ∙ c.requires.open in
    let empty : ins.stripe.outbox ≡ [] = ap (λ (v : FrameStoreView). v.stripe.outbox) c.self.view_is ∙ c.requires.sent in
    let on : IsOpenStore ins = c.self.invariant.open_is opens in
    subst (λ (v : FrameStoreView). ListsDirty v (dirty_names v) (dirty_bytes v)) c.self.view_is (lists_dirty ins c.self.invariant on empty)

pub returns-in-Err-clause-steps : goal.returns-in-Err-clause-steps
returns-in-Err-clause-steps g c =
    let ins : FrameStoreView = record { shape = c.self.inside.shape; region = c.self.inside.region; locks = c.self.inside.locks; seat = c.self.inside.seat; stripe = c.self.inside.stripe; dirty = c.self.inside.dirty; is_open = c.self.inside.is_open } in
    let opens : ins.is_open ≡ true = ap (λ (v : FrameStoreView). v.is_open) c.self.view_is ∙ c.requires.open in
    let empty : ins.stripe.outbox ≡ [] = ap (λ (v : FrameStoreView). v.stripe.outbox) c.self.view_is ∙ c.requires.sent in
    let on : IsOpenStore ins = c.self.invariant.open_is opens in
    let old = g.H.Device.history c.args.host.now in
    let new = g.H.Device.history c.whole.new.host in
    makes_by_store {E = Failed} g.H.Device.tells old new (Err c.in-Err.failed) c.args.log.now (mark_for c.args.ckpt.now c.args.log.now c.args.replay) ins c.args.self.now c.from_ref.result.now c.from_ref.ensures.value c.self.view_is c.in-Err.ensures.steps

pub returns-in-Err-clause-failed : goal.returns-in-Err-clause-failed
returns-in-Err-clause-failed g c =
    record {
      closed = record {
        shape = ap (λ (v : FrameStoreView). v.shape) c.self.view_is;
        region = ap (λ (v : FrameStoreView). v.region) c.self.view_is;
        locks = ap (λ (v : FrameStoreView). v.locks) c.self.view_is;
        stripe = ap (λ (v : FrameStoreView). v.stripe) c.self.view_is;
        is_open = refl;
      };
      no_room = c.in-Err.ensures.spent;
    }

pub returns-in-Ok-clause-mark : goal.returns-in-Ok-clause-mark
returns-in-Ok-clause-mark g c =
    let ins : FrameStoreView = record { shape = c.self.inside.shape; region = c.self.inside.region; locks = c.self.inside.locks; seat = c.self.inside.seat; stripe = c.self.inside.stripe; dirty = c.self.inside.dirty; is_open = c.self.inside.is_open } in
    let opens : ins.is_open ≡ true = ap (λ (v : FrameStoreView). v.is_open) c.self.view_is ∙ c.requires.open in
    let empty : ins.stripe.outbox ≡ [] = ap (λ (v : FrameStoreView). v.stripe.outbox) c.self.view_is ∙ c.requires.sent in
    let on : IsOpenStore ins = c.self.invariant.open_is opens in
    c.requires.mark (subst (λ (v : FrameStoreView). IsShape v.shape) c.self.view_is (shape_is_one ins on))

pub returns-in-Ok-clause-dirty : goal.returns-in-Ok-clause-dirty
returns-in-Ok-clause-dirty g c =
    let ins : FrameStoreView = record { shape = c.self.inside.shape; region = c.self.inside.region; locks = c.self.inside.locks; seat = c.self.inside.seat; stripe = c.self.inside.stripe; dirty = c.self.inside.dirty; is_open = c.self.inside.is_open } in
    let opens : ins.is_open ≡ true = ap (λ (v : FrameStoreView). v.is_open) c.self.view_is ∙ c.requires.open in
    let empty : ins.stripe.outbox ≡ [] = ap (λ (v : FrameStoreView). v.stripe.outbox) c.self.view_is ∙ c.requires.sent in
    let on : IsOpenStore ins = c.self.invariant.open_is opens in
    subst (λ (v : FrameStoreView). ListsDirty v (dirty_names v) (dirty_bytes v)) c.self.view_is (lists_dirty ins c.self.invariant on empty)

pub returns-in-Ok-clause-steps : goal.returns-in-Ok-clause-steps
returns-in-Ok-clause-steps g c =
    let ins : FrameStoreView = record { shape = c.self.inside.shape; region = c.self.inside.region; locks = c.self.inside.locks; seat = c.self.inside.seat; stripe = c.self.inside.stripe; dirty = c.self.inside.dirty; is_open = c.self.inside.is_open } in
    let opens : ins.is_open ≡ true = ap (λ (v : FrameStoreView). v.is_open) c.self.view_is ∙ c.requires.open in
    let empty : ins.stripe.outbox ≡ [] = ap (λ (v : FrameStoreView). v.stripe.outbox) c.self.view_is ∙ c.requires.sent in
    let on : IsOpenStore ins = c.self.invariant.open_is opens in
    let old = g.H.Device.history c.args.host.now in
    let new = g.H.Device.history c.whole.new.host in
    makes_by_store {E = Failed} g.H.Device.tells old new (Ok tt) c.args.log.now (mark_for c.args.ckpt.now c.args.log.now c.args.replay) ins c.args.self.now c.from_ref.result.now c.from_ref.ensures.value c.self.view_is c.in-Ok.ensures.steps

pub returns-in-Ok-clause-made : goal.returns-in-Ok-clause-made
returns-in-Ok-clause-made g c =
    let ins : FrameStoreView = record { shape = c.self.inside.shape; region = c.self.inside.region; locks = c.self.inside.locks; seat = c.self.inside.seat; stripe = c.self.inside.stripe; dirty = c.self.inside.dirty; is_open = c.self.inside.is_open } in
    let opens : ins.is_open ≡ true = ap (λ (v : FrameStoreView). v.is_open) c.self.view_is ∙ c.requires.open in
    let empty : ins.stripe.outbox ≡ [] = ap (λ (v : FrameStoreView). v.stripe.outbox) c.self.view_is ∙ c.requires.sent in
    let on : IsOpenStore ins = c.self.invariant.open_is opens in
    let old = g.H.Device.history c.args.host.now in
    let new = g.H.Device.history c.whole.new.host in
    let shape : c.args.ckpt.now.shape ≡ ins.shape = c.requires.shape ∙ ap (λ (v : FrameStoreView). v.shape) (sym c.self.view_is) in
    let leaves = subst (λ (xs : List Stripe). LeavesFrames {T = Unit {0}} {E = Failed} g.H.Device.tells ins.locks c.args.ckpt.now.shape old new (Ok tt) ins.seat c.whole.new.seat xs) c.from_ref.ensures.value c.in-Ok.ensures.frames in
    record {
      next = c.in-Ok.ensures.next;
      pages = subst (λ (v : FrameStoreView). IsCheckpointed g.H.Device.tells old.world new.world v (record ins { seat = c.whole.new.seat; stripe = c.has_files.new.self; dirty = None })) c.self.view_is
          (checkpointed {E = Failed} g.H.Device.tells old new tt c.args.ckpt.now.shape ins c.self.invariant on empty shape c.whole.new.seat leaves c.has_files.new.self c.has_files.ensures.same c.has_files.ensures.files (lists_dirty ins c.self.invariant on empty));
      ends = c.in-Ok.ensures.ends;
    }
