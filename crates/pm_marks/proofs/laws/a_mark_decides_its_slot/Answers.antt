use Rattle.std.proofs.Common.{refl, sym}
use Rattle.pm_marks.specs.Slots.{slot_of, bytes_in_slot}
use Rattle.pm_marks.proofs.SlotMarks.{mark_in-some, mark_in-bytes}
use Rattle.pm_marks.proofs.laws.a_mark_decides_its_slot.Goals as goal

pub returns-clause-fits : goal.returns-clause-fits
returns-clause-fits c = λ slot file mark is. (mark_in-some slot (bytes_in_slot slot file) mark is).0

pub returns-clause-slot : goal.returns-clause-slot
returns-clause-slot c = λ slot file mark is. sym (mark_in-some slot (bytes_in_slot slot file) mark is).1

pub returns-clause-bytes : goal.returns-clause-bytes
returns-clause-bytes c = λ slot file mark is. (mark_in-some slot (bytes_in_slot slot file) mark is).2

pub returns-clause-read : goal.returns-clause-read
returns-clause-read c = λ file mark fits spelled. mark_in-bytes (slot_of mark.number) (bytes_in_slot (slot_of mark.number) file) mark fits refl spelled
