use Rattle.std.proofs.Common.{◌≡◌, ℕ, true, List, [], ◌∷◌, ◌++◌, ◌∙◌, sym, ap, subst}
use Rattle.pm_frame.specs.declared.kinds.TheConstants.{CP_BEGIN}
use Rattle.pm_frame.specs.Frames.{Frame}
use Rattle.pm_disk.specs.Moments.{AllMoments, Does}
use Rattle.pm_disk.specs.Worlds.{log_forced}
use Rattle.pm_records.specs.LogSteps.{Force, end_after, world_after, DoesPrefix, DoesSteps}
use Rattle.pm_records.proofs.Tracing.{moments_first, broke_off, steps_one, steps_joined}
use Rattle.pm_segments.specs.Appends.{append_steps, steps_of}
use Rattle.pm_segments.specs.Ends.{LogEnd}
use Rattle.pm_ckpt.specs.Marked.{begin_frame, begin_log}
use Rattle.pm_ckpt.proofs.Opening.{grown_end, moments_tried}
use Rattle.pm_ckpt.proofs.begin.append_begin.Goals as goal

pub returns-in_err-append-clause-steps : goal.returns-in_err-append-clause-steps
returns-in_err-append-clause-steps g c t =
    let old = g.H.Device.history c.args.host.now in
    let mid = g.H.Device.history c.append.new.dev in
    let log = c.args.log.now in
    let mark = c.args.mark.now in
    let frame : Frame = record { kind = CP_BEGIN; payload = c.begin_payload-payload.result } in
    let is : frame ≡ begin_frame mark = ap (λ (p : List ℕ). let f : Frame = record { kind = CP_BEGIN; payload = p } in f) c.begin_payload-payload.ensures in
    let first = moments_tried old mid c.append.new.self.tried log frame (c.append.ensures.steps t).moments in
    broke_off old mid c.from_residual.result (begin_log log mark) log.end c.from_residual.ensures.0
    (subst (λ (f : Frame). AllMoments old mid (DoesPrefix (append_steps log f ++ Force ∷ []) log.end old.world)) is (moments_first old mid (append_steps log frame) (Force ∷ []) log.end first))

pub returns-clause-steps : goal.returns-clause-steps
returns-clause-steps g c t =
    let old = g.H.Device.history c.args.host.now in
    let mid = g.H.Device.history c.append.new.dev in
    let new = g.H.Device.history c.force.new.dev in
    let log = c.args.log.now in
    let mark = c.args.mark.now in
    let frame : Frame = record { kind = CP_BEGIN; payload = c.begin_payload-payload.result } in
    let is : frame ≡ begin_frame mark = ap (λ (p : List ℕ). let f : Frame = record { kind = CP_BEGIN; payload = p } in f) c.begin_payload-payload.ensures in
    let tried : c.append.new.self.tried ≡ true = ap (λ (l : LogEnd). l.tried) c.in_ok-append.ensures.grown in
    let first = moments_tried old mid c.append.new.self.tried log frame (c.append.ensures.steps t).moments in
    let there : mid.world ≡ world_after (append_steps log frame) log.end old.world =
    (c.in_ok-append.ensures.steps t).all ∙ ap (λ b. world_after (steps_of b log frame) log.end old.world) tried in
    let after = end_after (append_steps log frame) log.end in
    let seg : c.append.new.self.end.seg ≡ after.seg = ap (λ (l : LogEnd). l.end.seg) c.in_ok-append.ensures.grown ∙ sym (ap (λ p. p.seg) (grown_end log frame)) in
    let force = steps_one mid new c.force.result Force after (g.H.Device.sound c.append.new.dev t)
    (subst (λ n. Does mid new c.force.result (log_forced n mid.world)) seg (c.force.ensures.does t)) in
    subst (λ (f : Frame). DoesSteps old new c.force.result (append_steps log f ++ Force ∷ []) log.end) is
    (steps_joined old mid new c.force.result (append_steps log frame) (Force ∷ []) log.end first there force)
