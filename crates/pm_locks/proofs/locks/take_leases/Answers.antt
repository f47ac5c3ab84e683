use Rattle.std.proofs.Common.{◌≤◌, ◌∙◌, ◌+◌, ap, sym, subst, Some, None}
use Rattle.std.specs.Slots.{slots_items, slots_filled}
use mathlib.Core.Option.{some-injective}
use Rattle.pm_locks.proofs.Closing.{HasTaken, takes_next}
use Rattle.pm_locks.proofs.Moving.{none_lease}
use Rattle.pm_locks.proofs.locks.take_leases.Goals as goal

pub unreachable-requires : goal.unreachable-requires
unreachable-requires c =
    let y = c.requires.here c.takes.f c.takes-test.true in
    none_lease y.0 (some-injective None (Some y.0) (sym c.in-None.ensures.value ∙ ap (λ l. lib.ListN.get_elem? l c.takes.f) c.takes.invariant.0.same ∙ y.1))

pub takes-preserved : goal.takes-preserved
takes-preserved c =
    let o = c.in-Some.ensures.others in let i = c.takes.invariant in (
      subst (λ l. HasTaken (slots_items c.args.closed.slots) (slots_items c.take.new.self.slots) (slots_filled c.take.new.self.slots) c.args.frames (c.takes.f + 1) l) (sym c.push_reserved.ensures.items)
          (takes_next (slots_items c.args.closed.slots) (slots_items c.takes.closed.slots) (slots_items c.take.new.self.slots) (slots_filled c.takes.closed.slots) (slots_filled c.take.new.self.slots) c.args.frames c.takes.f c.takes.leases.items c.in-Some.lease i.0 c.takes-test.true
          c.in-Some.ensures.value o.0 o.1),
      o.2 ∙ i.1,
      subst (λ n. c.args.frames ≤ n) (sym c.push_reserved.ensures.capacity) i.2,
    )
