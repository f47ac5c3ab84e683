use Rattle.pm_marks.proofs.FirstSlots.{first_there, first_reads, others_stay}
use Rattle.pm_marks.proofs.laws.a_first_slot_is_made.Goals as goal

pub returns-clause-there : goal.returns-clause-there
returns-clause-there c = λ file. first_there file

pub returns-clause-same : goal.returns-clause-same
returns-clause-same c = λ slot file. first_reads slot file

pub returns-clause-alone : goal.returns-clause-alone
returns-clause-alone c = λ mark file there slot apart. others_stay mark file there slot apart
