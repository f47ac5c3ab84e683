use Rattle.std.proofs.Common.{◌≡◌, List, Some, length, sym, ◌∙◌, ap, subst, arith}
use Rattle.std.specs.Prelude.{All}
use Rattle.std.proofs.lemmas.List.Sorted.{All-permutation, length_permutation}
use Rattle.std.proofs.lemmas.Option.{same_Some}
use Rattle.pm_disk.specs.declared.failed.Failed.{Failed}
use Rattle.pm_types.specs.declared.page_id.PageId.{PageId}
use Rattle.pm_types.specs.declared.shape.Mark.{Mark}
use Rattle.pm_core.specs.PageSets.{AreOnce}
use Rattle.pm_ckpt.specs.Checkpoints.{MayCheckpoint, IsEnded}
use Rattle.pm_ckpt.specs.Marked.{Kept, next_mark, room_of}
use Rattle.pm_ckpt.specs.Writes.{IsHeld, held_in}
use Rattle.pm_ckpt.proofs.Orders.{once_same, may_order, ended_order, whole_err, whole_ok}
use Rattle.pm_ckpt.proofs.ckpt.Ckpt.whole_plain.Goals as goal

pub fill-requires-clause-once : goal.fill-requires-clause-once
fill-requires-clause-once g c =
    let order = c.arrange.new.order.items in
    let is : order ≡ c.deref.result.now = sym c.deref.ensures.value in
    subst AreOnce is (once_same c.args.dirty.now order c.arrange.ensures.order.same c.requires.once)

pub fill-requires-clause-room : goal.fill-requires-clause-room
fill-requires-clause-room g c =
    let order = c.arrange.new.order.items in
    let is : order ≡ c.deref.result.now = sym c.deref.ensures.value in
    let kept : c.self.inside.idle ≡ Some c.unwrap-idle.result = cc in
    let set : c.unwrap-idle.result ≡ Some c.unwrap-set.result = cc in
    let has : room_of c.self.inside.idle ≡ Some c.unwrap-set.result.spare = ap room_of (kept ∙ ap (λ o. Some o) set) in
    let room : room_of c.self.inside.idle ≡ Some c.requires.room.room = ap (λ (k : Kept). k.room) c.self.view_is ∙ c.requires.room.is in
    let same : c.unwrap-set.result.spare ≡ c.requires.room.room = same_Some _ _ (sym has ∙ room) in
    omega (arith, same, c.requires.room.enough, length_permutation c.args.dirty.now order c.arrange.ensures.order.same, ap (λ (ps : List PageId). length ps) is)

pub checkpoint-requires-clause-once : goal.checkpoint-requires-clause-once
checkpoint-requires-clause-once g c κs within =
    let order = c.arrange.new.order.items in
    let is : order ≡ c.deref-2.result.now = sym c.deref-2.ensures.value in
    subst AreOnce is (once_same c.args.dirty.now order c.arrange.ensures.order.same c.requires.once)

pub checkpoint-requires-clause-held : goal.checkpoint-requires-clause-held
checkpoint-requires-clause-held g c κs within =
    let order = c.arrange.new.order.items in
    let held = held_in c.args.pages.now in
    let is : order ≡ c.deref-2.result.now = sym c.deref-2.ensures.value in
    let shape : c.args.self.now.shape ≡ c.next_mark-mark.result.shape = sym (ap (λ (m : Mark). m.shape) c.next_mark-mark.ensures ∙ ap (λ (k : Kept). k.shape) c.self.view_is) in
    subst (λ (ps : List PageId). All (IsHeld c.next_mark-mark.result.shape.page_size held) ps) is
    (subst (λ shape. All (IsHeld shape.page_size held) order) shape
    (All-permutation (IsHeld c.args.self.now.shape.page_size held) c.args.dirty.now order c.arrange.ensures.order.same c.requires.held))

pub returns-in_err-checkpoint-clause-steps : goal.returns-in_err-checkpoint-clause-steps
returns-in_err-checkpoint-clause-steps g c t wanted told s can =
    let old = g.H.Device.history c.args.host.now in
    let new = g.H.Device.history c.checkpoint.new.host in
    let log = c.args.log.now in
    let order = c.arrange.new.order.items in
    let held = held_in c.args.pages.now in
    let is : order ≡ c.deref-2.result.now = sym c.deref-2.ensures.value in
    let named = next_mark c.args.self.now.shape c.args.self.now.mark log c.args.replay in
    let mark : c.next_mark-mark.result ≡ named = c.next_mark-mark.ensures ∙ ap (λ (k : Kept). next_mark k.shape k.mark log c.args.replay) c.self.view_is in
    whole_err wanted told old new log c.next_mark-mark.result named held c.args.dirty.now order c.deref-2.result.now s c.arrange.ensures.order is mark can
    c.checkpoint.result c.from_residual.result c.from_residual.ensures.0 (c.checkpoint.ensures.steps t wanted told s)

pub returns-clause-steps : goal.returns-clause-steps
returns-clause-steps g c t wanted told s can =
    let old = g.H.Device.history c.args.host.now in
    let new = g.H.Device.history c.checkpoint.new.host in
    let log = c.args.log.now in
    let order = c.arrange.new.order.items in
    let held = held_in c.args.pages.now in
    let is : order ≡ c.deref-2.result.now = sym c.deref-2.ensures.value in
    let named = next_mark c.args.self.now.shape c.args.self.now.mark log c.args.replay in
    let mark : c.next_mark-mark.result ≡ named = c.next_mark-mark.ensures ∙ ap (λ (k : Kept). next_mark k.shape k.mark log c.args.replay) c.self.view_is in
    whole_ok wanted told old new log c.next_mark-mark.result named held c.args.dirty.now order c.deref-2.result.now s c.arrange.ensures.order is mark can
    {E = Failed} _ tt (c.in_ok-checkpoint.ensures.steps t wanted told s)

pub returns-clause-ended : goal.returns-clause-ended
returns-clause-ended g c t may =
    let old = (g.H.Device.history c.args.host.now).world in
    let new = (g.H.Device.history c.checkpoint.new.host).world in
    let log = c.args.log.now in
    let order = c.arrange.new.order.items in
    let held = held_in c.args.pages.now in
    let is : order ≡ c.deref-2.result.now = sym c.deref-2.ensures.value in
    let named = next_mark c.args.self.now.shape c.args.self.now.mark log c.args.replay in
    let mark : c.next_mark-mark.result ≡ named = c.next_mark-mark.ensures ∙ ap (λ (k : Kept). next_mark k.shape k.mark log c.args.replay) c.self.view_is in
    let may_there = subst (λ (ps : List PageId). MayCheckpoint log c.next_mark-mark.result held ps old) is
    (subst (λ (m : Mark). MayCheckpoint log m held order old) (sym mark)
    (may_order log named held c.args.dirty.now order c.arrange.ensures.order.same old may)) in
    ended_order named.shape.page_size log named held c.args.dirty.now order new c.arrange.ensures.order.same
    (subst (λ (m : Mark). IsEnded m.shape.page_size log m held order new) mark
    (subst (λ (ps : List PageId). IsEnded c.next_mark-mark.result.shape.page_size log c.next_mark-mark.result held ps new) (sym is) (c.in_ok-checkpoint.ensures.ended t may_there)))
