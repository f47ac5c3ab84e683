use Rattle.std.proofs.Common.{◌∷◌, Some, None, sym, ap, ◌∙◌}
use Rattle.atomic_table.specs.Table.{rest}
use Rattle.pm_locks.specs.declared.view.View.{View}
use Rattle.pm_locks.specs.Sight.{LockTable}
use Rattle.pm_locks.specs.Views.{out_at}
use Rattle.pm_locks.specs.Kinds.{Seated}
use Rattle.pm_locks.proofs.Bounds.{within}
use Rattle.pm_locks.proofs.Hands.{leaves_it}
use Rattle.pm_locks.proofs.locks.Locks.empty_slot.Goals as goal

pub exchange-slot-requires : goal.exchange-slot-requires
exchange-slot-requires c = (c.requires.table ∙ sym (ap (λ (l : LockTable). l.table) c.self.view_is), (Some c.requires.slot.0, c.requires.slot.1))

pub load-requires : goal.load-requires
load-requires c =
    let are = ap (λ (l : LockTable). l.ranges) c.self.view_is in
    let i = c.self.invariant in
    let ex = c.exchange-slot.ensures.3 in
    let e = ap (λ (m : Seated). m.1) ex in
    let v = ap (λ (m : Seated). m.0) ex in (
      c.exchange-slot.ensures.0 ∙ c.requires.table ∙ sym (ap (λ (l : LockTable). l.table) c.self.view_is),
      within _ _ _ _ _ are i.2 i.0 c.requires.frame,
      leaves_it _ _ _ c.args.f c.requires.out.0 (within _ _ _ _ _ are i.2 i.1 c.requires.frame)
          (ap (λ (x : View). x.hand) v ∙ c.requires.hand) (e ∙ (λ k. (c.args.f, None) ∷ sym (ap rest e) k))
          (ap (λ (x : View). out_at x.outs c.args.f) v ∙ c.requires.out.1),
    )
