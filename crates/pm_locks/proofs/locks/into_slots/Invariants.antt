use Rattle.std.proofs.Common.{◌≡◌, ◌≤◌, ◌+◌, ◌++◌, Some, map, vec_len, vec_capacity}
use Rattle.std.specs.Prelude.{reverse}
use Rattle.pm_locks.proofs.locks.into_slots.Given as goal

abbrev pub invariant-moves : goal.invariant-moves
invariant-moves l = (map Some l.fn.leases.items ≡ map Some l.leases.items ++ reverse l.slots.items)
    × (vec_capacity l.leases ≡ vec_capacity l.fn.leases)
    × (vec_len l.leases + vec_len l.slots ≤ vec_capacity l.slots)

abbrev pub decreases-moves : goal.decreases-moves
decreases-moves l = goal.left-moves l
