use Rattle.std.proofs.Common.{[], ◌∷◌, refl}
use Rattle.std.proofs.lemmas.Result.{on_ok_weaker}
use Rattle.pm_disk.specs.Files.{Drop}
use Rattle.pm_disk.specs.Worlds.{log_changed}
use Rattle.pm_records.specs.LogSteps.{DropSegment, ForceSegment}
use Rattle.pm_records.proofs.Tracing.{moments_one, moments_first, broke_off, steps_one, steps_joined}
use Rattle.pm_segments.proofs.Removed.{dropped_one}
use Rattle.pm_segments.proofs.dropping.drop_forced.Goals as goal

pub returns-in_err-drop_log-clause-steps : goal.returns-in_err-drop_log-clause-steps
returns-in_err-drop_log-clause-steps g c t end =
    let old = g.H.Device.history c.args.host.now in
    let mid = g.H.Device.history c.drop_log.new.self in
    let seg = c.args.seg in
    let drop = moments_one old mid c.drop_log.result (DropSegment seg) end (log_changed seg Drop old.world) (g.H.Device.sound c.args.host.now t) refl (c.drop_log.ensures.does t) in
    broke_off old mid c.from_residual.result (DropSegment seg ∷ ForceSegment seg ∷ []) end c.from_residual.ensures.0 (moments_first old mid (DropSegment seg ∷ []) (ForceSegment seg ∷ []) end drop)

pub returns-clause-steps : goal.returns-clause-steps
returns-clause-steps g c t end =
    let old = g.H.Device.history c.args.host.now in
    let mid = g.H.Device.history c.drop_log.new.self in
    let new = g.H.Device.history c.force_log.new.self in
    let seg = c.args.seg in
    let drop = moments_one old mid c.drop_log.result (DropSegment seg) end (log_changed seg Drop old.world) (g.H.Device.sound c.args.host.now t) refl (c.drop_log.ensures.does t) in
    steps_joined old mid new c.force_log.result (DropSegment seg ∷ []) (ForceSegment seg ∷ []) end drop (c.in_ok-drop_log.ensures.does t).ok
    (steps_one mid new c.force_log.result (ForceSegment seg) end (g.H.Device.sound c.drop_log.new.self t) (c.force_log.ensures.does t))

pub returns-clause-dropped : goal.returns-clause-dropped
returns-clause-dropped g c t =
    let old = (g.H.Device.history c.args.host.now).world in
    let mid = (g.H.Device.history c.drop_log.new.self).world in
    let new = (g.H.Device.history c.force_log.new.self).world in
    on_ok_weaker c.force_log.result (λ is. dropped_one c.args.seg old mid new (c.in_ok-drop_log.ensures.does t).ok is) (c.force_log.ensures.does t).ok
