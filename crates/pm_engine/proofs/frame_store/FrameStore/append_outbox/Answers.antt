use Rattle.std.proofs.Common.{ℕ, List, length, sym, ap, subst, ◌∙◌, vec_capacity}
use Rattle.pm_engine.specs.FrameStores.{FrameStoreView}
use Rattle.pm_engine.specs.OutboxLogs.{SpellOperationRecords, SpellNumbers, HasNumberRoom}
use Rattle.pm_engine.proofs.frame_store.FrameStore.append_outbox.Goals as goal

pub note_operations-requires : goal.note_operations-requires
note_operations-requires g c =
    subst (λ (bytes : List ℕ). HasNumberRoom bytes (length c.args.order.now.items) (vec_capacity c.args.order.now)) (sym (c.outbox-handed.ensures ∙ ap (λ (v : FrameStoreView). v.stripe.outbox) c.self.view_is)) c.requires.room

pub returns-in-Err-clause-appends : goal.returns-in-Err-clause-appends
returns-in-Err-clause-appends g c frames spell =
    c.in-Err.ensures.appends frames (subst (λ (bytes : List ℕ). SpellOperationRecords bytes frames) (sym (c.outbox-handed.ensures ∙ ap (λ (v : FrameStoreView). v.stripe.outbox) c.self.view_is)) spell)

pub returns-in-Ok-clause-appends : goal.returns-in-Ok-clause-appends
returns-in-Ok-clause-appends g c frames spell =
    c.in-Ok.ensures.appends frames (subst (λ (bytes : List ℕ). SpellOperationRecords bytes frames) (sym (c.outbox-handed.ensures ∙ ap (λ (v : FrameStoreView). v.stripe.outbox) c.self.view_is)) spell)

pub returns-in-Err-clause-order : goal.returns-in-Err-clause-order
returns-in-Err-clause-order g c numbers spell =
    c.note_operations.ensures numbers (subst (λ (bytes : List ℕ). SpellNumbers bytes numbers) (sym (c.outbox-handed.ensures ∙ ap (λ (v : FrameStoreView). v.stripe.outbox) c.self.view_is)) spell)

pub returns-in-Ok-clause-order : goal.returns-in-Ok-clause-order
returns-in-Ok-clause-order g c numbers spell =
    c.note_operations.ensures numbers (subst (λ (bytes : List ℕ). SpellNumbers bytes numbers) (sym (c.outbox-handed.ensures ∙ ap (λ (v : FrameStoreView). v.stripe.outbox) c.self.view_is)) spell)
