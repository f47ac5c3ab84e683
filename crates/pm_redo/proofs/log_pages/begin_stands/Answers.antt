use Rattle.std.proofs.Common.{rules, ◌≡◌, Some, ap}
use Rattle.pm_frame.specs.Views.{frame_in}
use Rattle.pm_records.specs.LogFiles.{contents}
use Rattle.pm_segments.specs.Scans.{Scanned, frame_ahead}
use Rattle.pm_redo.proofs.RangeReads.{first_there, begin_there}
use Rattle.pm_redo.proofs.log_pages.begin_stands.Goals as goal

pub returns-in-Some-clause-stands : goal.returns-in-Some-clause-stands
returns-in-Some-clause-stands g c t =
    let world = (g.H.Device.history c.args.host.now).world in
    let mark = c.args.mark.now in
    let scan = c.in_ok-scan.scan in
    let begins = c.in_ok-scan.ensures in
    let ahead : frame_in (Some c.in-Some.frame) ≡ frame_ahead scan world = search rules in
    let stands = first_there mark world scan (frame_in (Some c.in-Some.frame)) (ap (λ (s : Scanned). s.next) begins) (ap (λ (s : Scanned). s.is_over) begins) ahead in
    begin_there mark (contents world.log) _ c.is_begin.result stands c.is_begin.ensures
