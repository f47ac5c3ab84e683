use Rattle.std.proofs.Common.{◌<◌, ap, sym, ◌∙◌, subst}
use Rattle.pm_locks.specs.Sight.{Sight, LockTable}
use Rattle.pm_locks.specs.declared.view.View.{View}
use Rattle.pm_locks.specs.Views.{IsStill, IsOwnAlone}
use Rattle.pm_locks.specs.Shares.{AreAdjacent, HasBoth}
use Rattle.pm_locks.specs.Kinds.{Seated}
use Rattle.pm_locks.proofs.Sharing.{joins_it, joined_alone, joined_has}
use Rattle.pm_locks.proofs.locks.Locks.join_in.Goals as goal

pub join_seat-requires : goal.join_seat-requires
join_seat-requires c =
    let i = c.self.invariant in
    let table = sym (ap (λ (l : LockTable). l.table) c.self.view_is) in (
      ap (λ (x : Sight). x.table) c.seat.view_is ∙ c.requires.seat.of ∙ table,
      ap (λ (x : Sight). x.table) c.other.view_is ∙ c.requires.other.of ∙ table,
      c.other.invariant.0,
      subst (λ n. 0 < n) (sym i.0) i.4,
      joins_it _ _ _ _
          (ap (λ (x : Sight). x.view.workers) c.seat.view_is ∙ c.requires.seat.staff ∙ sym c.requires.other.staff ∙ sym (ap (λ (x : Sight). x.view.workers) c.other.view_is))
          (subst (λ (p : Sight × Sight). AreAdjacent p.0.view.numbers p.1.view.numbers) (λ k. (sym c.other.view_is k, sym c.seat.view_is k)) c.requires.follow)
          (subst (λ (x : Sight). IsStill x.view) (sym c.seat.view_is) c.requires.still)
          (subst (λ (x : Sight). IsStill x.view) (sym c.other.view_is) c.requires.other_still),
    )

pub invariant_of-seat : goal.invariant_of-seat
invariant_of-seat c =
    let e = c.join_seat.ensures.2 in
    let follow = subst (λ (p : Sight × Sight). AreAdjacent p.0.view.numbers p.1.view.numbers) (λ k. (sym c.other.view_is k, sym c.seat.view_is k)) c.requires.follow in
    let a = c.seat.invariant in let b = c.other.invariant in (
      ap (λ (m : Seated). m.1) e ∙ a.0,
      ap (λ (m : Seated). m.0.hand) e,
      ap (λ (m : Seated). m.0.numbers) e ∙ (λ k. record { from = (b.2 k).from; upto = (a.2 k).upto; flusher = (a.2 k).flusher }),
      subst IsOwnAlone (sym (ap (λ (m : Seated). m.0) e)) (joined_alone c.seat.inside.seat.me.0 c.other.inside.seat.me.0 follow a.3 b.3),
    )

pub returns-clause-entries : goal.returns-clause-entries
returns-clause-entries c =
    let v = c.seat.inside.seat.me.0 in let w = c.other.inside.seat.me.0 in
    let has = joined_has v w (subst (λ (p : Sight × Sight). AreAdjacent p.0.view.numbers p.1.view.numbers) (λ k. (sym c.other.view_is k, sym c.seat.view_is k)) c.requires.follow) c.seat.invariant.3 c.other.invariant.3 in
    subst (λ (p : Sight × Sight × View). HasBoth p.0.view p.1.view p.2) (λ k. (c.seat.view_is k, c.other.view_is k, (sym c.join_seat.ensures.2 k).0)) has
