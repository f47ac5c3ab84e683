use Rattle.std.proofs.Common.{rules, ◌≡◌, Some, ap, sym, ◌∙◌}
use Rattle.pm_frame.specs.Views.{frame_in}
use Rattle.pm_records.specs.Logs.{place}
use Rattle.pm_segments.specs.Scans.{Scanned, frame_ahead}
use Rattle.pm_redo.proofs.RangeReads.{first_found}
use Rattle.pm_redo.proofs.Restored.{no_restart, bad_place}
use Rattle.pm_redo.proofs.found.first_shape.Goals as goal

pub returns-in-Some-clause-bad : goal.returns-in-Some-clause-bad
returns-in-Some-clause-bad g c t at is =
    let world = (g.H.Device.history c.args.host.now).world in
    let scan = c.in_ok-scan.scan in
    let begins = c.in_ok-scan.ensures in
    let ahead : frame_in (Some c.in-Some.frame) ≡ frame_ahead scan world = search rules in
    record {
      there = sym (bad_place (place 1 0) at is);
      frame = _;
      stands = first_found (place 1 0) world scan (frame_in (Some c.in-Some.frame)) (ap (λ (s : Scanned). s.next) begins) (ap (λ (s : Scanned). s.is_over) begins) ahead;
      no_restart = no_restart _ (sym c.shape_of.ensures ∙ c.in-None-shape_of.is);
    }
