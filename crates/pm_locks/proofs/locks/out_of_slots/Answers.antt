use Rattle.pm_locks.proofs.Moving.{no_gap}
use Rattle.pm_locks.proofs.locks.out_of_slots.Goals as goal

pub unreachable-requires : goal.unreachable-requires
unreachable-requires c = no_gap c.moves.leases.items c.requires.full.0 c.moves.slots.items c.pop.new.self.items c.args.slots.items c.in-Some.slot c.moves.invariant.0 c.requires.full.1 c.in-Some.ensures.items c.in-None.is
