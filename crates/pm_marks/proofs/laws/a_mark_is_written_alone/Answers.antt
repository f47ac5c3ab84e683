use Rattle.pm_marks.proofs.SlotWrites.{mark_stands, other_stays}
use Rattle.pm_marks.proofs.laws.a_mark_is_written_alone.Goals as goal

pub returns-clause-stands : goal.returns-clause-stands
returns-clause-stands c = λ file mark fits. mark_stands file mark fits

pub returns-clause-alone : goal.returns-clause-alone
returns-clause-alone c = λ file mark other apart small there. other_stays file mark other apart small there
