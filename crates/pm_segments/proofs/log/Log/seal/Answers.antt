use Rattle.std.proofs.Common.{subst}
use Rattle.pm_frame.specs.declared.limits.TheConstants.{FRAME_END_MAX}
use Rattle.std.proofs.Common.{◌≤◌}
use Rattle.pm_records.proofs.Tracing.{broke_off}
use Rattle.pm_segments.specs.Appends.{seal_steps}
use Rattle.pm_segments.specs.Ends.{LogEnd}
use Rattle.pm_segments.proofs.Sealing.{fits_seal, moments_sealed, world_sealed}
use Rattle.pm_segments.proofs.log.Log.seal.Goals as goal

pub returns-clause-steps : goal.returns-clause-steps
returns-clause-steps g c t =
    let old = g.L.Device.history c.args.dev.now in
    let new = g.L.Device.history c.write.new.dev in
    let end = c.args.self.now.end in
    let fits = fits_seal end (subst (λ (l : LogEnd). l.end.off ≤ FRAME_END_MAX) c.self.view_is c.if-self-gt-FRAME_END_MAX.false) in
    record {
      all = world_sealed old.world new.world end fits (c.in_ok-write.ensures.does t).ok;
      moments = moments_sealed old new c.write.result end fits (g.L.Device.sound c.args.dev.now t) (c.write.ensures.does t);
    }

pub returns-in_err-write-clause-steps : goal.returns-in_err-write-clause-steps
returns-in_err-write-clause-steps g c t =
    let old = g.L.Device.history c.args.dev.now in
    let new = g.L.Device.history c.write.new.dev in
    let end = c.args.self.now.end in
    let fits = fits_seal end (subst (λ (l : LogEnd). l.end.off ≤ FRAME_END_MAX) c.self.view_is c.if-self-gt-FRAME_END_MAX.false) in
    broke_off old new c.from_residual.result (seal_steps end) end c.from_residual.ensures.0 (moments_sealed old new c.write.result end fits (g.L.Device.sound c.args.dev.now t) (c.write.ensures.does t))
