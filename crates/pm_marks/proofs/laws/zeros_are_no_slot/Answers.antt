use Rattle.pm_marks.proofs.SlotMarks.{zeros_are_none, mark_at-short}
use Rattle.pm_marks.proofs.laws.zeros_are_no_slot.Goals as goal

pub returns-clause-zeros : goal.returns-clause-zeros
returns-clause-zeros c = λ slot file zeros. zeros_are_none slot file zeros

pub returns-clause-short : goal.returns-clause-short
returns-clause-short c = λ slot file short. mark_at-short slot file short
