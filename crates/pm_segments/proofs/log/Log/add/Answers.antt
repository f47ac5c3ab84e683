use Rattle.std.proofs.Common.{◌≡◌, ◌∙◌, ap, sym, subst, arith, ◌++◌, length}
use Rattle.pm_disk.specs.Files.{bytes_of}
use Rattle.pm_disk.specs.Worlds.{World, segment_in}
use Rattle.pm_frame.specs.Frames.{Frame}
use Rattle.pm_records.specs.LogSteps.{written}
use Rattle.pm_segments.specs.Ends.{LogEnd, EndsThere}
use Rattle.pm_segments.proofs.Emptied.{written_ends}
use Rattle.pm_segments.proofs.log.Log.add.Goals as goal

pub returns-clause-ends : goal.returns-clause-ends
returns-clause-ends g c t =
    let place = c.self.inside.end in
    let old = (g.L.Device.history c.args.dev.now).world in
    let frame : Frame = record { kind = c.args.kind; payload = c.args.front.now ++ c.args.rest.now } in
    let ends : length (bytes_of (segment_in old place.seg)) ≡ place.off = (subst (λ (l : LogEnd). EndsThere l old) (sym c.self.view_is) (c.requires.end t)).ends in
    let new = (g.L.Device.history c.write.new.dev).world in
    let is : length (bytes_of (segment_in new place.seg)) ≡ length (bytes_of (segment_in (written place frame old) place.seg)) = ap (λ (w : World). length (bytes_of (segment_in w place.seg))) (c.in_ok-len.ensures.does t).ok in
    record { kept = omega (arith, (c.requires.end t).kept, ap (λ (l : LogEnd). l.first) (c.self-2.view_is ∙ c.write.ensures.unmoved), ap (λ (l : LogEnd). l.first) c.self.view_is, ap (λ (l : LogEnd). l.end.seg) c.self.view_is); ends = omega (arith, is, written_ends place frame old ends, c.in_ok-len.ensures.len) }
