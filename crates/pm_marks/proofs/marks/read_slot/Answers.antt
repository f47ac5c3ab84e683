use Rattle.std.proofs.Common.{sym}
use Rattle.pm_disk.specs.declared.mark.MarkFile.TheVariants as marker
use Rattle.pm_disk.specs.Files.{bytes_of}
use Rattle.pm_disk.specs.Worlds.{marks_in}
use Rattle.pm_marks.proofs.SlotMarks.{unread, mark_at-short}
use Rattle.pm_marks.proofs.marks.read_slot.Goals as goal

pub returns-else-branch-clause-found : goal.returns-else-branch-clause-found
returns-else-branch-clause-found g c t =
    let file = marks_in (g.H.Device.history c.args.host.now).world marker.Start in
    let few = unread file c.args.slot c.in_ok-read_mark.field-0 c.read_mark.new.into c.read_mark.array_long (c.in_ok-read_mark.ensures.reads t) c.if-branch.false in
    sym (mark_at-short c.args.slot (bytes_of file) few)
