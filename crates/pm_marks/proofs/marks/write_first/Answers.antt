use Rattle.std.proofs.Common.{◌<◌, ℕ, List, length, replicate, sym, ◌∙◌, ap, arith}
use Rattle.pm_disk.specs.declared.mark.TheConstants.{SLOT_LEN}
use Rattle.pm_disk.specs.Files.{bytes_of}
use Rattle.pm_disk.specs.Worlds.{World, marks_in, marks_changed, slot_change}
use Rattle.pm_marks.proofs.FirstSlots.{world_new}
use Rattle.pm_marks.proofs.SlotMarks.{unread}
use Rattle.pm_marks.proofs.Writing.{first_zeros}
use Rattle.pm_marks.proofs.marks.write_first.Goals as goal

pub returns-clause-writes : goal.returns-clause-writes
returns-clause-writes g c t =
    let old = g.H.Device.history c.args.host.now in
    let mid = g.H.Device.history c.read_mark.new.self in
    let new = g.H.Device.history c.write_mark.new.self in
    let file = c.args.file in
    let same = (c.in_ok-read_mark.ensures.does t).ok in
    let few = unread (marks_in old.world file) 0 c.in_ok-read_mark.field-0 c.read_mark.new.into c.read_mark.array_long (c.in_ok-read_mark.ensures.reads t) c.if-branch.false in
    let short : length (bytes_of (marks_in old.world file)) < SLOT_LEN = omega (arith, few) in
    let zeros : List ℕ = replicate SLOT_LEN 0 in
    first_zeros file old mid (g.H.Device.sound c.args.host.now t) new c.read_mark.result c.write_mark.result (marks_changed file (slot_change (marks_in mid.world file) 0 zeros) mid.world) (c.read_mark.ensures.does t) same
    (c.write_mark.ensures.does t) (ap (λ (w : World). marks_changed file (slot_change (marks_in w file) 0 zeros) w) same ∙ sym (world_new file old.world short))
