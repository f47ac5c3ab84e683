-- The next record is applied, and the scan goes on after it.
use Rattle.std.proofs.Common.{◌≡◌, ◌<◌, ◌≤◌, Bool, Option, Result, true, Ok, Err, refl, ap, ◌∙◌, subst, arith}
use Rattle.std.specs.Prelude.{IsErrOf}
use Rattle.pm_types.specs.declared.fault.StoreFault.{StoreFault}
use Rattle.pm_types.specs.declared.fault.StoreFault.TheVariants.{BadRecord}
use Rattle.pm_types.specs.declared.place.Place.{Place}
use Rattle.pm_frame.specs.declared.limits.TheConstants.{FRAME_END_MAX, SEGMENT_END_MAX}
use Rattle.pm_frame.specs.Frames.{Frame}
use Rattle.pm_records.proofs.Runs.{next_rises}
use Rattle.pm_segments.specs.Ends.{LogEnd}
use Rattle.pm_segments.specs.Scans.{Advances, IsAhead}
use Rattle.pm_engine.specs.Engines.{FrameRunning}
use Rattle.pm_engine.specs.FrameReplayLogs.{AppliesNextIn}
use Rattle.pm_engine.specs.RunningStores.{HasSegmentsFor}
use Rattle.pm_engine.proofs.ReplayedFrames.{steps_unnumbered, steps_past, steps_fault, steps_bad, steps_on}
use Rattle.pm_engine.proofs.Results.{ok_holds}
use Rattle.pm_engine.proofs.frame_replay_log.replay_next_in_frames.Goals as goal

pub returns-then-not-has_numbers-clause-steps : goal.returns-then-not-has_numbers-clause-steps
returns-then-not-has_numbers-clause-steps g c = steps_unnumbered g.H.Device.tells c.args.scan.now c.args.engine (g.H.Device.history c.args.host.now) (λ t. g.H.Device.sound c.args.host.now t)

pub returns-then-not-may_stand-clause-steps : goal.returns-then-not-may_stand-clause-steps
returns-then-not-may_stand-clause-steps g c =
    let past : FRAME_END_MAX < c.args.scan.now.next.off = subst (λ (p : Place). FRAME_END_MAX < p.off) c.next_place-place.ensures (c.may_stand.ensures.no c.if-not-may_stand.true) in
    steps_past g.H.Device.tells c.args.scan.now c.args.engine (g.H.Device.history c.args.host.now) (λ t. g.H.Device.sound c.args.host.now t) c.next_place-place.result c.next_place-place.ensures past

same_fault : (fault other : StoreFault) → IsErrOf {T = Unit {0}} (Err fault) other → fault ≡ other
same_fault fault other is = cc

pub returns-in-Err-clause-steps : goal.returns-in-Err-clause-steps
returns-in-Err-clause-steps g c =
    let ran = c.apply_next_in_frames-engine in
    let old = g.H.Device.history c.args.host.now in
    let new = g.H.Device.history ran.new.host in
    let x = subst (λ (r : Result Bool StoreFault). AppliesNextIn g.H.Device.tells c.args.scan.now ran.new.scan c.args.engine ran.result.0 old new r) c.in-Err.is ran.ensures.next in
    steps_fault g.H.Device.tells c.args.scan.now ran.new.scan c.args.engine ran.result.0 old new ran.new.scan c.in-Err.fault (λ at is. ran.ensures.no_record at (c.in-Err.is ∙ ap (λ (f : StoreFault). Err f) (same_fault c.in-Err.fault (BadRecord at) is))) x

pub returns-then-not-can-clause-steps : goal.returns-then-not-can-clause-steps
returns-then-not-can-clause-steps g c =
    let ran = c.apply_next_in_frames-engine in
    let old = g.H.Device.history c.args.host.now in
    let new = g.H.Device.history ran.new.host in
    let x = subst (λ (r : Result Bool StoreFault). AppliesNextIn g.H.Device.tells c.args.scan.now ran.new.scan c.args.engine ran.result.0 old new r) (c.in-Ok.is ∙ ap (λ (b : Bool). Ok b) c.if-not-can.true) ran.ensures.next in
    let end_is : c.end-before.result ≡ c.args.engine.log.end = c.end-before.ensures ∙ ap (λ (l : LogEnd). l.end) c.deref.ensures ∙ ap (λ (r : FrameRunning). r.log.end) c.engine.view_is in
    let numbers = c.has_numbers.ensures c.if-not-has_numbers.false in
    let room : HasSegmentsFor c.args.engine.log 33 = omega (arith, numbers, ap (λ (p : Place). p.seg) end_is) in
    steps_bad g.H.Device.tells c.args.scan.now ran.new.scan c.args.engine ran.result.0 old new ran.new.scan c.next_place-place.result c.next_place-place.ensures room x

pub returns-else-not-can-clause-steps : goal.returns-else-not-can-clause-steps
returns-else-not-can-clause-steps g c =
    let tells = g.H.Device.tells in
    let ran = c.apply_next_in_frames-engine in
    let scan = c.args.scan.now in
    let mid = ran.new.scan in
    let later = c.keep_ahead.new.scan in
    let old = g.H.Device.history c.args.host.now in
    let new = g.H.Device.history ran.new.host in
    let is = c.in-Ok.is ∙ ap (λ (b : Bool). Ok b) c.if-not-can.false in
    let x = subst (λ (r : Result Bool StoreFault). AppliesNextIn tells scan mid c.args.engine ran.result.0 old new r) is ran.ensures.next in
    let one = x.there refl in
    let advances = subst (λ (o : Option Frame). Advances scan mid o) one.1 x.advances in
    let stays = c.keep_ahead.ensures.stays in
    let end_is : c.end-before.result ≡ c.args.engine.log.end = c.end-before.ensures ∙ ap (λ (l : LogEnd). l.end) c.deref.ensures ∙ ap (λ (r : FrameRunning). r.log.end) c.engine.view_is in
    let numbers = c.has_numbers.ensures c.if-not-has_numbers.false in
    let room : HasSegmentsFor c.args.engine.log 33 = omega (arith, numbers, ap (λ (p : Place). p.seg) end_is) in
    steps_on tells scan mid c.args.engine ran.result.0 old new later stays room (one.0, (stays.place ∙ advances.0, stays.next ∙ advances.1, stays.is_over ∙ advances.2))
    (omega (arith, ok_holds ran.result.1 true (mid.next.off ≤ SEGMENT_END_MAX) is ran.ensures.bound, ap (λ (p : Place). p.off) stays.next))
    (λ t. c.keep_ahead.ensures.ahead old.world new.world (ok_holds ran.result.1 true (IsAhead mid old.world) is (ran.ensures.ahead t))
    (λ numbered seg low high. x.replays.log t room seg (omega (arith, low, next_rises scan.next one.0, ap (λ (p : Place). p.seg) advances.1)) (omega (arith, high, ap (λ (p : Place). p.seg) end_is))))
    x
