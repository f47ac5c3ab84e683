use Rattle.pm_tests_frames.proofs.Pairs.{three}
use Rattle.pm_tests_frames.proofs.locks.churn.begin.Goals as goal

pub returns-clause-first : goal.returns-clause-first
returns-clause-first c = (three c.in-Ok.locks c.spread.new.into c.pop.new.self.items c.pop-2.new.self.items c.pop-3.new.self.items c.in-Some-pop-2.first c.in-Some-pop.second c.in-Some.third c.spread.ensures.seats c.in-Ok.ensures.locks.0 c.in-Some.ensures.items c.in-Some-pop.ensures.items c.in-Some-pop-2.ensures.items).0

pub returns-clause-second : goal.returns-clause-second
returns-clause-second c = (three c.in-Ok.locks c.spread.new.into c.pop.new.self.items c.pop-2.new.self.items c.pop-3.new.self.items c.in-Some-pop-2.first c.in-Some-pop.second c.in-Some.third c.spread.ensures.seats c.in-Ok.ensures.locks.0 c.in-Some.ensures.items c.in-Some-pop.ensures.items c.in-Some-pop-2.ensures.items).1

pub returns-clause-third : goal.returns-clause-third
returns-clause-third c = (three c.in-Ok.locks c.spread.new.into c.pop.new.self.items c.pop-2.new.self.items c.pop-3.new.self.items c.in-Some-pop-2.first c.in-Some-pop.second c.in-Some.third c.spread.ensures.seats c.in-Ok.ensures.locks.0 c.in-Some.ensures.items c.in-Some-pop.ensures.items c.in-Some-pop-2.ensures.items).2
