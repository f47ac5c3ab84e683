use Rattle.std.proofs.Common.{◌≡◌, [], ◌∙◌, ap, arith, length}
use Rattle.std.proofs.lemmas.List.{drop_all}
use Rattle.pm_engine.specs.FrameStores.{FrameStoreView}
use Rattle.pm_engine.proofs.SentOutboxes.{sent_store}
use Rattle.pm_engine.proofs.frame_store.FrameStore.empty_outbox.Goals as goal

pub invariant_of-self : goal.invariant_of-self
invariant_of-self c =
    let ins : FrameStoreView = record { shape = c.self.inside.shape; region = c.self.inside.region; locks = c.self.inside.locks; seat = c.self.inside.seat; stripe = c.self.inside.stripe; dirty = c.self.inside.dirty; is_open = c.self.inside.is_open } in
    let t = c.sent.new.self in
    let empty : t.outbox ≡ [] = c.sent.ensures.sent ∙ drop_all (length c.outbox-len.result.now) ins.stripe.outbox (omega (arith, ap length c.outbox-len.ensures)) in
    sent_store ins t c.sent.ensures.same empty c.self.invariant
