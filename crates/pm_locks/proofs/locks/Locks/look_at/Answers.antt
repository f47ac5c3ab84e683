use Rattle.std.proofs.Common.{sym, ap, ◌∙◌}
use Rattle.pm_locks.specs.Sight.{Sight, LockTable}
use Rattle.pm_locks.proofs.Bounds.{within}
use Rattle.pm_locks.proofs.Looks.{loads}
use Rattle.pm_locks.proofs.locks.Locks.look_at.Goals as goal

pub load-requires : goal.load-requires
load-requires c =
    let are = ap (λ (l : LockTable). l.ranges) c.self.view_is in
    let i = c.self.invariant in (
      ap (λ (x : Sight). x.table) c.seat.view_is ∙ c.requires.seat.of ∙ sym (ap (λ (l : LockTable). l.table) c.self.view_is),
      within _ _ _ _ _ are i.2 i.0 c.requires.frame,
      loads _ _ _ _ (within _ _ _ _ _ are i.2 i.1 c.requires.frame),
    )
