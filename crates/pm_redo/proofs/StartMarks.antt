-- What is read of the markers is the checkpoint in force, and its mark is a valid one.
use Rattle.std.proofs.Common.{◌≡◌, List, ℕ, Option, Some, None, Bool, true, false, refl, sym, ◌∙◌, ap, subst}
use Rattle.std.specs.Prelude.{if◌then◌else◌, Result, Err, IsErrOf}
use Rattle.std.proofs.lemmas.Option.{same_Some}
use Rattle.pm_types.specs.declared.shape.Mark.{Mark}
use Rattle.pm_marks.specs.declared.marks.Marks.{Marks}
use Rattle.pm_marks.specs.InForce.{Checkpoint, NoStart, Started, Ended, start_in, has_slot, checkpoint_of, checkpoint_in, marks_of}
use Rattle.pm_marks.specs.Slots.{IsMark, slot_of, bytes_in_slot, mark_at}
use Rattle.pm_marks.proofs.SlotMarks.{mark_in-some}
use Rattle.pm_core.proofs.InForce.{IsStart, highest_of}

start_of : (o : Option Mark) (ends : List ℕ) → (marks_of (checkpoint_of o ends)).start ≡ o
start_of None ends = refl
start_of (Some mark) ends = by (has_slot ends mark)
  where
    by : (b : Bool) → (marks_of (if b then Ended mark else Started mark)).start ≡ Some mark
    by true = refl
    by false = refl

-- the start marker that was read is valid
pub start_fits : (starts ends : List ℕ) (marks : Marks) (mark : Mark) → marks ≡ marks_of (checkpoint_in starts ends) → marks.start ≡ Some mark → IsMark mark
start_fits starts ends marks mark is started =
    let found : start_in starts ≡ Some mark = sym (start_of (start_in starts) ends) ∙ ap (λ (m : Marks). m.start) (sym is) ∙ started in
    by (start_in starts) mark (highest_of starts (mark_at 0 starts) (mark_at 1 starts) refl refl) found
  where
    by : (o : Option Mark) (mark : Mark) → IsStart starts o → o ≡ Some mark → IsMark mark
    by None mark highest is = let no : None ≡ Some mark = is in absurd cc
    by (Some other) mark highest is = subst IsMark (same_Some other mark is) (mark_in-some (slot_of other.number) (bytes_in_slot (slot_of other.number) starts) other highest.valid).0

-- a checkpoint without its end marker
pub is_started : (checkpoint : Checkpoint) (marks : Marks) (mark : Mark) → marks ≡ marks_of checkpoint → marks.start ≡ Some mark → marks.ended ≡ false → checkpoint ≡ Started mark
is_started NoStart marks mark is started ended = let no : None ≡ Some mark = ap (λ (m : Marks). m.start) (sym is) ∙ started in absurd cc
is_started (Started other) marks mark is started ended = ap Started (same_Some other mark (ap (λ (m : Marks). m.start) (sym is) ∙ started))
is_started (Ended other) marks mark is started ended = let no : true ≡ false = ap (λ (m : Marks). m.ended) (sym is) ∙ ended in absurd cc

-- a fault that is handed on
pub same_fault : {S T E : Type 0} (e x : E) → IsErrOf {T = S} {E = E} (Err e) x → IsErrOf {T = T} {E = E} (Err e) x
same_fault {S} {T} {E} e x is = let same : e ≡ x = cc in ap (λ (f : E). let r : Result T E = Err f in r) same
