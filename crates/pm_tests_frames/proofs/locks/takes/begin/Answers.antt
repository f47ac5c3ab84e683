use Rattle.pm_tests_frames.proofs.Pairs.{both}
use Rattle.pm_tests_frames.proofs.locks.takes.begin.Goals as goal

pub returns-clause-first : goal.returns-clause-first
returns-clause-first c = (both c.in-Ok.locks c.spread.new.into c.pop.new.self.items c.pop-2.new.self.items c.in-Some-pop.first c.in-Some.second c.spread.ensures.seats c.in-Ok.ensures.locks.0 c.in-Some.ensures.items c.in-Some-pop.ensures.items).0

pub returns-clause-second : goal.returns-clause-second
returns-clause-second c = (both c.in-Ok.locks c.spread.new.into c.pop.new.self.items c.pop-2.new.self.items c.in-Some-pop.first c.in-Some.second c.spread.ensures.seats c.in-Ok.ensures.locks.0 c.in-Some.ensures.items c.in-Some-pop.ensures.items).1
