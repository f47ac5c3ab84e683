use Rattle.std.proofs.Common.{◌≡◌, true, false, sym, ◌∙◌}
use Rattle.pm_disk.specs.Files.{bytes_of, content}
use Rattle.pm_redo.proofs.StartMarks.{start_fits}
use Rattle.pm_redo.proofs.markers.read_start.Goals as goal

pub returns-else-is_mark-clause-known : goal.returns-else-is_mark-clause-known
returns-else-is_mark-clause-known g c t at is =
    let world = (g.H.Device.history c.args.host.now).world in
    let fits = start_fits (bytes_of (content world.starts)) (bytes_of (content world.ends)) c.in_ok-marks.marks c.in-Some.mark (c.in_ok-marks.ensures.in_force t) c.in-Some.is in
    absurd (let both : true ≡ false = sym (c.is_mark.ensures.1 fits) ∙ c.if-is_mark.false in cc)
