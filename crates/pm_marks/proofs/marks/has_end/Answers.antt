use Rattle.std.proofs.Common.{sym, ◌∙◌, arith}
use Rattle.pm_disk.specs.declared.mark.MarkFile.TheVariants as marker
use Rattle.pm_disk.specs.Files.{bytes_of}
use Rattle.pm_disk.specs.Worlds.{marks_in}
use Rattle.pm_marks.proofs.SlotMarks.{has_slot-short, unread}
use Rattle.pm_marks.proofs.marks.has_end.Goals as goal

pub returns-else-whole-clause-found : goal.returns-else-whole-clause-found
returns-else-whole-clause-found g c t =
    let file = bytes_of (marks_in (g.H.Device.history c.args.host.now).world marker.End) in
    let few = unread (marks_in (g.H.Device.history c.args.host.now).world marker.End) c.slot_of.result c.in_ok-whole.whole c.read_mark.new.into c.read_mark.array_long (c.in_ok-whole.ensures.reads t) c.if-whole.false in
    c.if-whole.false ∙ sym (has_slot-short file c.args.mark.now (omega (arith, few, c.slot_of.ensures.slot)))
