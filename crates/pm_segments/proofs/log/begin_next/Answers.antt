use Rattle.std.proofs.Common.{[], ◌∷◌, ◌∙◌, ap}
use Rattle.pm_disk.specs.Files.{Cut}
use Rattle.pm_disk.specs.Worlds.{log_changed, log_forced}
use Rattle.pm_records.specs.LogSteps.{Force, NextSegment, next_segment, next_begin}
use Rattle.pm_records.proofs.Tracing.{moments_one, moments_first, moments_joined, world_joined, broke_off}
use Rattle.pm_segments.proofs.Emptied.{emptied}
use Rattle.pm_segments.proofs.log.begin_next.Goals as goal

pub returns-in_err-cut_log-clause-steps : goal.returns-in_err-cut_log-clause-steps
returns-in_err-cut_log-clause-steps g c t =
    let old = g.L.Device.history c.args.dev.now in
    let mid = g.L.Device.history c.cut_log.new.self in
    let end = c.args.end in
    let cut = moments_one old mid c.cut_log.result NextSegment end (log_changed c.next_segment-seg.result (Cut 0) old.world) (g.L.Device.sound c.args.dev.now t)
    (ap (λ n. log_changed n (Cut 0) old.world) c.next_segment-seg.ensures) (c.cut_log.ensures.does t) in
    broke_off old mid c.from_residual.result (NextSegment ∷ Force ∷ []) end c.from_residual.ensures.0 (moments_first old mid (NextSegment ∷ []) (Force ∷ []) end cut)

pub returns-in_err-force_log-clause-steps : goal.returns-in_err-force_log-clause-steps
returns-in_err-force_log-clause-steps g c t =
    let old = g.L.Device.history c.args.dev.now in
    let mid = g.L.Device.history c.cut_log.new.self in
    let new = g.L.Device.history c.force_log.new.self in
    let end = c.args.end in
    let is = ap (λ n. log_changed n (Cut 0) old.world) c.next_segment-seg.ensures in
    let cut = moments_one old mid c.cut_log.result NextSegment end (log_changed c.next_segment-seg.result (Cut 0) old.world) (g.L.Device.sound c.args.dev.now t) is (c.cut_log.ensures.does t) in
    let force = moments_one mid new c.force_log.result Force (next_begin end) (log_forced c.next_segment-seg.result mid.world) (g.L.Device.sound c.cut_log.new.self t)
    (ap (λ n. log_forced n mid.world) c.next_segment-seg.ensures) (c.force_log.ensures.does t) in
    broke_off old new c.from_residual-in_err-force_log.result (NextSegment ∷ Force ∷ []) end c.from_residual-in_err-force_log.ensures.0
    (moments_joined old mid new (NextSegment ∷ []) (Force ∷ []) end cut ((c.in_ok-cut_log.ensures.does t).ok ∙ is) force)

pub returns-clause-steps : goal.returns-clause-steps
returns-clause-steps g c t =
    let old = g.L.Device.history c.args.dev.now in
    let mid = g.L.Device.history c.cut_log.new.self in
    let new = g.L.Device.history c.force_log.new.self in
    let end = c.args.end in
    let is = ap (λ n. log_changed n (Cut 0) old.world) c.next_segment-seg.ensures in
    let was = ap (λ n. log_forced n mid.world) c.next_segment-seg.ensures in
    let cut = moments_one old mid c.cut_log.result NextSegment end (log_changed c.next_segment-seg.result (Cut 0) old.world) (g.L.Device.sound c.args.dev.now t) is (c.cut_log.ensures.does t) in
    let force = moments_one mid new c.force_log.result Force (next_begin end) (log_forced c.next_segment-seg.result mid.world) (g.L.Device.sound c.cut_log.new.self t) was (c.force_log.ensures.does t) in
    let cut_is = (c.in_ok-cut_log.ensures.does t).ok ∙ is in
    record {
      all = world_joined old.world mid.world new.world (NextSegment ∷ []) (Force ∷ []) end cut_is ((c.in_ok-force_log.ensures.does t).ok ∙ was);
      moments = moments_joined old mid new (NextSegment ∷ []) (Force ∷ []) end cut cut_is force;
    }

pub returns-clause-empty : goal.returns-clause-empty
returns-clause-empty g c t =
    let old = (g.L.Device.history c.args.dev.now).world in
    let mid = (g.L.Device.history c.cut_log.new.self).world in
    let new = (g.L.Device.history c.force_log.new.self).world in
    emptied old mid new (next_segment c.args.end.seg) c.next_segment-seg.result c.next_segment-seg.ensures (c.in_ok-cut_log.ensures.does t).ok (c.in_ok-force_log.ensures.does t).ok
