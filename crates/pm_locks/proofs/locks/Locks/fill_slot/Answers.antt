use Rattle.std.proofs.Common.{sym, ap, ◌∙◌}
use Rattle.pm_locks.specs.Sight.{LockTable}
use Rattle.pm_locks.proofs.Bounds.{within}
use Rattle.pm_locks.proofs.Hands.{grabs_it}
use Rattle.pm_locks.proofs.locks.Locks.fill_slot.Goals as goal

pub load-seen-requires : goal.load-seen-requires
load-seen-requires c =
    let are = ap (λ (l : LockTable). l.ranges) c.self.view_is in
    let i = c.self.invariant in (
      c.requires.table ∙ sym (ap (λ (l : LockTable). l.table) c.self.view_is),
      within _ _ _ _ _ are i.2 i.0 c.requires.frame,
      grabs_it _ _ _ c.args.f c.requires.out.0 (within _ _ _ _ _ are i.2 i.1 c.requires.frame) c.requires.hand c.requires.out.1,
    )
