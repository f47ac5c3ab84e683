use Rattle.pm_marks.proofs.FirstSlots.{others_stay as first_stays}
use Rattle.pm_core.proofs.FirstRun.{others_stay}
use Rattle.pm_core.proofs.laws.a_marker_leaves_the_other.Goals as goal

pub returns-clause-first : goal.returns-clause-first
returns-clause-first c = λ mark file there slot apart. first_stays mark file there slot apart

pub returns-clause-whole : goal.returns-clause-whole
returns-clause-whole c = λ mark file whole. others_stay mark file whole
