use Rattle.std.proofs.Common.{[], ◌∷◌, refl, ◌∙◌, ap}
use Rattle.pm_disk.specs.Worlds.{log_forced}
use Rattle.pm_records.specs.LogSteps.{CutTail, Force, cut_at, cut_steps}
use Rattle.pm_records.proofs.Tracing.{moments_one, moments_first, moments_joined, world_joined, broke_off}
use Rattle.pm_segments.proofs.Emptied.{cut_ends}
use Rattle.pm_segments.proofs.log.Log.cut_tail.Goals as goal

pub returns-clause-ends : goal.returns-clause-ends
returns-clause-ends g c t = record {
  kept = c.requires.kept;
  ends = cut_ends (g.L.Device.history c.args.dev.now).world (g.L.Device.history c.force_log.new.self).world c.args.end
      ((c.in_ok-force_log.ensures.does t).ok ∙ ap (log_forced c.args.end.seg) (c.in_ok-cut_log.ensures.does t).ok) (c.requires.long t);
}

pub returns-in_err-cut_log-clause-steps : goal.returns-in_err-cut_log-clause-steps
returns-in_err-cut_log-clause-steps g c t =
    let old = g.L.Device.history c.args.dev.now in
    let mid = g.L.Device.history c.cut_log.new.self in
    let end = c.args.end in
    let cut = moments_one old mid c.cut_log.result CutTail end (cut_at end old.world) (g.L.Device.sound c.args.dev.now t) refl (c.cut_log.ensures.does t) in
    broke_off old mid c.from_residual.result cut_steps end c.from_residual.ensures.0 (moments_first old mid (CutTail ∷ []) (Force ∷ []) end cut)

pub returns-in_err-force_log-clause-steps : goal.returns-in_err-force_log-clause-steps
returns-in_err-force_log-clause-steps g c t =
    let old = g.L.Device.history c.args.dev.now in
    let mid = g.L.Device.history c.cut_log.new.self in
    let new = g.L.Device.history c.force_log.new.self in
    let end = c.args.end in
    let cut = moments_one old mid c.cut_log.result CutTail end (cut_at end old.world) (g.L.Device.sound c.args.dev.now t) refl (c.cut_log.ensures.does t) in
    let force = moments_one mid new c.force_log.result Force end (log_forced end.seg mid.world) (g.L.Device.sound c.cut_log.new.self t) refl (c.force_log.ensures.does t) in
    broke_off old new c.from_residual-in_err-force_log.result cut_steps end c.from_residual-in_err-force_log.ensures.0
    (moments_joined old mid new (CutTail ∷ []) (Force ∷ []) end cut (c.in_ok-cut_log.ensures.does t).ok force)

pub returns-clause-steps : goal.returns-clause-steps
returns-clause-steps g c t =
    let old = g.L.Device.history c.args.dev.now in
    let mid = g.L.Device.history c.cut_log.new.self in
    let new = g.L.Device.history c.force_log.new.self in
    let end = c.args.end in
    let cut = moments_one old mid c.cut_log.result CutTail end (cut_at end old.world) (g.L.Device.sound c.args.dev.now t) refl (c.cut_log.ensures.does t) in
    let force = moments_one mid new c.force_log.result Force end (log_forced end.seg mid.world) (g.L.Device.sound c.cut_log.new.self t) refl (c.force_log.ensures.does t) in
    let cut_is = (c.in_ok-cut_log.ensures.does t).ok in
    record {
      all = world_joined old.world mid.world new.world (CutTail ∷ []) (Force ∷ []) end cut_is (c.in_ok-force_log.ensures.does t).ok;
      moments = moments_joined old mid new (CutTail ∷ []) (Force ∷ []) end cut cut_is force;
    }
