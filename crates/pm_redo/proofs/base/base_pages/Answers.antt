use Rattle.std.proofs.Common.{◌≡◌, true, false, sym, ◌∙◌, subst}
use Rattle.pm_disk.specs.Files.{bytes_of, content}
use Rattle.pm_disk.specs.Worlds.{World}
use Rattle.pm_records.specs.LogFiles.{contents}
use Rattle.pm_marks.specs.InForce.{Checkpoint}
use Rattle.pm_core.specs.Held.{in_force}
use Rattle.pm_core.specs.LogAlone.{image_of}
use Rattle.pm_redo.specs.Rebuilding.{CanNotRebuild, CanNotRebuildFor}
use Rattle.pm_redo.proofs.StartMarks.{start_fits, is_started, same_fault}
use Rattle.pm_types.specs.declared.fault.StoreFault.TheVariants.{BadRecord}
use Rattle.pm_redo.proofs.base.base_pages.Goals as goal

pub returns-then-not-is_mark-clause-bad : goal.returns-then-not-is_mark-clause-bad
returns-then-not-is_mark-clause-bad g c t at is =
    let world = (g.H.Device.history c.args.host.now).world in
    let fits = start_fits (bytes_of (content world.starts)) (bytes_of (content world.ends)) c.in_ok-marks.marks c.in-Some.mark (c.in_ok-marks.ensures.in_force t) c.in-Some.is in
    let both : true ≡ false = sym (c.is_mark.ensures.1 fits) ∙ c.if-not-is_mark.true in
    absurd (let no : true ≡ false = both in cc)

pub returns-in-Err-clause-bad : goal.returns-in-Err-clause-bad
returns-in-Err-clause-bad g c t at is =
    let world = (g.H.Device.history c.args.host.now).world in
    let mark = c.in-Some.mark in
    let started = is_started (in_force (image_of world)) c.in_ok-marks.marks mark (c.in_ok-marks.ensures.in_force t) c.in-Some.is c.if-marks.false in
    let bad = subst (λ (w : World). CanNotRebuild mark (contents w.log) at) (c.in_ok-marks.ensures.unchanged t).ok (c.in-Err.ensures.bad t at (same_fault c.in-Err.fault (BadRecord at) is)) in
    subst (λ (checkpoint : Checkpoint). CanNotRebuildFor checkpoint (contents world.log) at) (sym started) bad
