use Rattle.std.proofs.Common.{◌<◌, ap, sym, ◌∙◌, subst}
use Rattle.pm_locks.specs.Sight.{Sight, LockTable}
use Rattle.pm_locks.specs.Views.{IsStill, IsOwnAlone}
use Rattle.pm_locks.specs.Shares.{least_of, others_of}
use Rattle.pm_locks.specs.Kinds.{Seated}
use Rattle.pm_locks.proofs.Sharing.{splits_it, share_alone}
use Rattle.pm_locks.proofs.locks.Locks.split_off.Goals as goal

pub split_seat-new-requires : goal.split_seat-new-requires
split_seat-new-requires c =
    let i = c.self.invariant in (
      ap (λ (x : Sight). x.table) c.seat.view_is ∙ c.requires.seat.of ∙ sym (ap (λ (l : LockTable). l.table) c.self.view_is),
      subst (λ n. 0 < n) (sym i.0) i.4,
      splits_it _ _ (subst (λ (x : Sight). x.view.numbers.from < x.view.numbers.upto) (sym c.seat.view_is) c.requires.some) (subst (λ (x : Sight). IsStill x.view) (sym c.seat.view_is) c.requires.still),
    )

pub invariant_of-seat : goal.invariant_of-seat
invariant_of-seat c =
    let e = c.split_seat-new.ensures.2 in
    let v = c.seat.inside.seat.me.0 in (
      ap (λ (m : Seated). m.1) e ∙ c.seat.invariant.0,
      ap (λ (m : Seated). m.0.hand) e,
      ap (λ (m : Seated). m.0.numbers) e ∙ ap others_of c.seat.invariant.2,
      subst IsOwnAlone (sym (ap (λ (m : Seated). m.0) e)) (share_alone (others_of v.numbers) v v.met),
    )

pub invariant_of-result : goal.invariant_of-result
invariant_of-result c =
    let e = c.split_seat-new.ensures.4 in
    let v = c.seat.inside.seat.me.0 in (
      ap (λ (m : Seated). m.1) e,
      ap (λ (m : Seated). m.0.hand) e,
      ap (λ (m : Seated). m.0.numbers) e ∙ ap least_of c.seat.invariant.2,
      subst IsOwnAlone (sym (ap (λ (m : Seated). m.0) e)) (share_alone (least_of v.numbers) v _),
    )
