use Rattle.std.proofs.Common.{◌≡◌, ◌<◌, length, map, sym, ap, ◌∙◌, subst}
use Rattle.std.specs.Slots.{slots_items, slots_counts}
use Rattle.std.proofs.lemmas.List.{length-map}
use Rattle.std.proofs.lemmas.Option.{slice_get_within}
use Rattle.pm_locks.specs.Sight.{Sight, LockTable}
use Rattle.pm_locks.specs.Views.{IsWhole, IsStill}
use Rattle.pm_locks.proofs.Closings.{closes, same_slot, ranges_are}
use Rattle.pm_locks.proofs.locks.Locks.close.Goals as goal

pub take_leases-requires-clause-here : goal.take_leases-requires-clause-here
take_leases-requires-clause-here c = λ f lt.
    let slots = c.close_with.result.slots in
    let whole = subst (λ (x : Sight). IsWhole x.view) (sym c.seat.view_is) c.requires.whole in
    let still = subst (λ (x : Sight). IsStill x.view) (sym c.seat.view_is) c.requires.still in
    let wide : length (slots_items slots) ≡ c.self.inside.frames = sym (slots_counts slots).0 ∙ c.close_with.ensures.counts.1 ∙ c.self.invariant.1 in
    let x = closes _ _ _ c.seat.inside.seat.me.0 whole still _ _ c.close_with.ensures.values.2 f (subst (λ n. f < n) (sym wide) lt) in
    (x.lease, x.at)

pub returns-clause-numbers : goal.returns-clause-numbers
returns-clause-numbers c = λ f y e.
    let slots = c.close_with.result.slots in
    let whole = subst (λ (x : Sight). IsWhole x.view) (sym c.seat.view_is) c.requires.whole in
    let still = subst (λ (x : Sight). IsStill x.view) (sym c.seat.view_is) c.requires.still in
    let wide : length (slots_items slots) ≡ c.self.inside.frames = sym (slots_counts slots).0 ∙ c.close_with.ensures.counts.1 ∙ c.self.invariant.1 in
    let lt = slice_get_within c.take_leases.result.items f y e in
    let x = closes _ _ _ c.seat.inside.seat.me.0 whole still _ _ c.close_with.ensures.values.2 f (subst (λ n. f < n) (c.take_leases.ensures.count ∙ sym wide) lt) in
    (same_slot _ (slots_items slots) f y x (c.take_leases.ensures.each f y e)).0

pub returns-clause-ranges : goal.returns-clause-ranges
returns-clause-ranges c =
    let slots = c.close_with.result.slots in
    let leases = c.take_leases.result.items in
    let whole = subst (λ (x : Sight). IsWhole x.view) (sym c.seat.view_is) c.requires.whole in
    let still = subst (λ (x : Sight). IsStill x.view) (sym c.seat.view_is) c.requires.still in
    let wide : length (slots_items slots) ≡ c.self.inside.frames = sym (slots_counts slots).0 ∙ c.close_with.ensures.counts.1 ∙ c.self.invariant.1 in
    let all = c.self.inside.table.shared.key.leases.value.items in
    ranges_are leases (map (λ y. y.range) all) (c.take_leases.ensures.count ∙ sym (length-map all (λ y. y.range) ∙ c.self.invariant.2))
    (λ f y e.
    let lt = slice_get_within leases f y e in
    let x = closes _ _ _ c.seat.inside.seat.me.0 whole still _ _ c.close_with.ensures.values.2 f (subst (λ n. f < n) (c.take_leases.ensures.count ∙ sym wide) lt) in
    (same_slot _ (slots_items slots) f y x (c.take_leases.ensures.each f y e)).1)
    ∙ ap (λ (l : LockTable). l.ranges) c.self.view_is
