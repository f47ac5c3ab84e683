use Rattle.pm_locks.proofs.Gathering.{looks_next}
use Rattle.pm_locks.proofs.locks.Locks.look_at_all.Goals as goal

pub looks-preserved : goal.looks-preserved
looks-preserved c = looks_next c.args.self.now c.args.seat.now c.looks.seat c.look_at.new.seat c.looks.f c.look_at.result c.requires.whole c.requires.still c.looks.invariant c.look_at.ensures.seat c.look_at.ensures.met
