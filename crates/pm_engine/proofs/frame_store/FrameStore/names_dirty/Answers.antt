use Rattle.std.proofs.Common.{◌∙◌, ap, subst}
use Rattle.pm_engine.specs.FrameDirty.{ListsDirty, dirty_names, dirty_bytes}
use Rattle.pm_engine.specs.FrameStores.{FrameStoreView}
use Rattle.pm_engine.proofs.FrameDirty.{lists_dirty}
use Rattle.pm_engine.proofs.frame_store.FrameStore.names_dirty.Goals as goal

pub returns : goal.returns
returns c opens empty =
    let ins : FrameStoreView = record { shape = c.self.inside.shape; region = c.self.inside.region; locks = c.self.inside.locks; seat = c.self.inside.seat; stripe = c.self.inside.stripe; dirty = c.self.inside.dirty; is_open = c.self.inside.is_open } in
    let is = c.self.view_is in
    subst (λ (s : FrameStoreView). ListsDirty s (dirty_names s) (dirty_bytes s)) is
    (lists_dirty ins c.self.invariant (c.self.invariant.open_is (ap (λ (s : FrameStoreView). s.is_open) is ∙ opens)) (ap (λ (s : FrameStoreView). s.stripe.outbox) is ∙ empty))
