use Rattle.std.proofs.Common.{[], ◌∷◌, refl}
use Rattle.pm_disk.specs.Worlds.{log_forced}
use Rattle.pm_records.specs.LogSteps.{Force}
use Rattle.pm_records.proofs.Tracing.{moments_one, moments_first, broke_off, steps_joined}
use Rattle.pm_segments.specs.Appends.{begin_steps, enter_steps}
use Rattle.pm_segments.proofs.log.enter_next.Goals as goal

pub returns-in_err-force_log-clause-steps : goal.returns-in_err-force_log-clause-steps
returns-in_err-force_log-clause-steps g c t =
    let old = g.L.Device.history c.args.dev.now in
    let mid = g.L.Device.history c.force_log.new.self in
    let end = c.args.sealed_end in
    let force = moments_one old mid c.force_log.result Force end (log_forced end.seg old.world) (g.L.Device.sound c.args.dev.now t) refl (c.force_log.ensures.does t) in
    broke_off old mid c.from_residual.result enter_steps end c.from_residual.ensures.0 (moments_first old mid (Force ∷ []) begin_steps end force)

pub returns-clause-steps : goal.returns-clause-steps
returns-clause-steps g c t =
    let old = g.L.Device.history c.args.dev.now in
    let mid = g.L.Device.history c.force_log.new.self in
    let end = c.args.sealed_end in
    let force = moments_one old mid c.force_log.result Force end (log_forced end.seg old.world) (g.L.Device.sound c.args.dev.now t) refl (c.force_log.ensures.does t) in
    steps_joined old mid (g.L.Device.history c.begin_next.new.dev) c.begin_next.result (Force ∷ []) begin_steps end force (c.in_ok-force_log.ensures.does t).ok (c.begin_next.ensures.steps t)
