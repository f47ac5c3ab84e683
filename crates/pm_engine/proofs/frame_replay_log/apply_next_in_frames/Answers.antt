-- The scan goes on by a frame, and it is applied.
use Rattle.std.proofs.Common.{None, Some, subst}
use Rattle.pm_types.specs.declared.fault.StoreFault.TheVariants.{Failed}
use Rattle.pm_types.specs.declared.place.Place.{Place}
use Rattle.pm_frame.specs.Views.{frame_in, frame_of}
use Rattle.pm_records.specs.Logs.{record_in}
use Rattle.pm_segments.specs.Scans.{GivesNext}
use Rattle.pm_engine.specs.FrameReplayCheckpoints.{ReplaysRecord}
use Rattle.pm_engine.proofs.LentReaders.{refused_world}
use Rattle.pm_engine.proofs.ReplayedFrames.{next_unread, next_none, next_some}
use Rattle.pm_engine.proofs.Results.{if_ok_holds}
use Rattle.pm_engine.proofs.frame_replay_log.apply_next_in_frames.Goals as goal

pub returns-in-Err-clause-next : goal.returns-in-Err-clause-next
returns-in-Err-clause-next g c =
    let old = g.H.Device.history c.args.host.now in
    let mid = g.H.Device.history c.next.new.dev in
    next_unread g.H.Device.tells c.args.scan.now c.next.follows.lender-at-none c.args.engine old mid (λ t. refused_world old mid c.next.result (g.H.Device.sound c.args.host.now t) (c.next.ensures.does t)) c.requires.end c.requires.clean c.requires.open Failed (λ id is. absurd cc)

pub returns-in-None-clause-next : goal.returns-in-None-clause-next
returns-in-None-clause-next g c =
    let old = g.H.Device.history c.args.host.now in
    let mid = g.H.Device.history c.next.new.dev in
    let later = c.next.follows.lender-at-none in
    let all = if_ok_holds c.next.result c.in-Ok.found (λ found. GivesNext g.H.Device.tells c.args.scan.now later old.world mid.world (frame_in found)) c.in-Ok.is c.next.follows.holds-at-none in
    let gives : GivesNext g.H.Device.tells c.args.scan.now later old.world mid.world None = subst (λ o. GivesNext g.H.Device.tells c.args.scan.now later old.world mid.world (frame_in o)) c.in-None.is all in
    next_none g.H.Device.tells c.args.scan.now later c.args.engine old mid (λ t. refused_world old mid c.next.result (g.H.Device.sound c.args.host.now t) (c.next.ensures.does t)) c.requires.end c.requires.clean c.requires.open gives.stands gives.advances

pub returns-in-Some-clause-next : goal.returns-in-Some-clause-next
returns-in-Some-clause-next g c =
    let old = g.H.Device.history c.args.host.now in
    let mid = g.H.Device.history c.next.new.dev in
    let new = g.H.Device.history c.apply_at.new.host in
    let later = c.next.follows.lender-at-none in
    let f = frame_of c.in-Some.frame in
    let all = if_ok_holds c.next.result c.in-Ok.found (λ found. GivesNext g.H.Device.tells c.args.scan.now later old.world mid.world (frame_in found)) c.in-Ok.is c.next.follows.holds-at-none in
    let gives : GivesNext g.H.Device.tells c.args.scan.now later old.world mid.world (Some f) = subst (λ o. GivesNext g.H.Device.tells c.args.scan.now later old.world mid.world (frame_in o)) c.in-Some.is all in
    next_some g.H.Device.tells c.args.scan.now later c.args.engine old mid (λ t. refused_world old mid c.next.result (g.H.Device.sound c.args.host.now t) (c.next.ensures.does t)) c.requires.end c.requires.clean c.requires.open
    f c.apply_at.result.0 new c.apply_at.result.1 (λ t. g.H.Device.sound c.next.new.dev t) gives.stands gives.advances
    (subst (λ (p : Place). ReplaysRecord g.H.Device.tells p (record_in f) c.args.engine c.apply_at.result.0 mid new c.apply_at.result.1) c.next_place-place.ensures c.apply_at.ensures.replays)
