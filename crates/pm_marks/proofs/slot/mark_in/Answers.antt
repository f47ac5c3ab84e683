use Rattle.std.proofs.Common.{sym, ◌∙◌, refl}
use Rattle.std.proofs.lemmas.Bool.{false≢true}
use Rattle.pm_marks.proofs.SlotMarks.{mark_in-bytes, mark_in-none, bytes_same, same_bytes}
use Rattle.pm_marks.proofs.slot.mark_in.Goals as goal
use Rattle.pm_marks.proofs.slot.mark_in.Goals.{else-is_mark-via-then-is_mark+then-mark-slot+else-eq, else-is_mark-via-then-is_mark+else-mark-slot, else-is_mark-via-else-is_mark}

pub returns-then-eq : goal.returns-then-eq
returns-then-eq c =
    let spelled = bytes_same c.args.bytes.now c.slot_bytes.result (sym c.if-eq.ensures) ∙ c.slot_bytes.ensures in
    sym (mark_in-bytes c.args.slot c.args.bytes.now c.named_mark-mark.result (c.if-is_mark.ensures.0 refl) c.if-mark-slot.true spelled)

pub returns-else-is_mark : goal.returns-else-is_mark
returns-else-is_mark c =
    let none = mark_in-none c.args.slot c.args.bytes.now c.named_mark-mark.result c.named_mark-mark.ensures in
    elim c.else-is_mark.branch [
      | else-is_mark-via-then-is_mark+then-mark-slot+else-eq w ↦
          sym (none (λ fits at spelled. false≢true (w.if-eq.ensures ∙ same_bytes c.args.bytes.now w.slot_bytes.result (spelled ∙ sym w.slot_bytes.ensures))))
      | else-is_mark-via-then-is_mark+else-mark-slot w ↦ sym (none (λ fits at spelled. w.if-mark-slot.false at))
      | else-is_mark-via-else-is_mark w ↦ sym (none (λ fits at spelled. false≢true (w.if-is_mark.ensures.1 fits)))
    ]
