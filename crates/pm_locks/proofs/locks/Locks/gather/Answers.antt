use Rattle.std.proofs.Common.{sym, subst}
use Rattle.pm_locks.specs.Views.{IsWhole}
use Rattle.pm_locks.proofs.Knowing.{knows_gathered}
use Rattle.pm_locks.proofs.locks.Locks.gather.Goals as goal

pub returns-clause-knows : goal.returns-clause-knows
returns-clause-knows c = knows_gathered c.args.self.now c.join_workers.new.seat.view.met c.look_at_all.new.seat.view (subst IsWhole (sym c.look_at_all.ensures.same) c.join_workers.ensures.whole) c.look_at_all.ensures.words
