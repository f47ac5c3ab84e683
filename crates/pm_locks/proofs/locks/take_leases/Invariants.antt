use Rattle.std.proofs.Common.{◌≡◌, ◌≤◌, vec_capacity}
use Rattle.std.specs.Slots.{slots_items, slots_filled, slots_len}
use Rattle.pm_locks.proofs.Closing.{HasTaken}
use Rattle.pm_locks.proofs.locks.take_leases.Given as goal

abbrev pub invariant-takes : goal.invariant-takes
invariant-takes l = HasTaken (slots_items l.fn.closed.slots) (slots_items l.closed.slots) (slots_filled l.closed.slots) l.frames l.f l.leases.items
    × (slots_len l.closed.slots ≡ l.frames) × (l.frames ≤ vec_capacity l.leases)
