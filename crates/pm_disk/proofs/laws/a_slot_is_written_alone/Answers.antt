use Rattle.pm_disk.proofs.Gaps.{slot_puts, slot_alone, slot_zeros}
use Rattle.pm_disk.proofs.laws.a_slot_is_written_alone.Goals as goal

pub returns-clause-stands : goal.returns-clause-stands
returns-clause-stands c = λ file bytes slot. slot_puts file bytes slot

pub returns-clause-alone : goal.returns-clause-alone
returns-clause-alone c = λ file bytes slot other long apart. slot_alone file bytes slot other long apart

pub returns-clause-zeros : goal.returns-clause-zeros
returns-clause-zeros c = λ file bytes slot i le lt. slot_zeros file bytes slot i le lt
