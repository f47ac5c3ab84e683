use Rattle.std.proofs.Common.{◌≡◌, List, [], ◌∷◌, sym, subst}
use Rattle.pm_types.specs.declared.place.Place.{Place}
use Rattle.pm_disk.specs.Worlds.{World}
use Rattle.pm_records.specs.FirstRecords.{restart_frame}
use Rattle.pm_records.specs.LogSteps.{Step, world_after}
use Rattle.pm_segments.specs.Ends.{EndsThere}
use Rattle.pm_engine.specs.AppendRuns.{append_all_steps}
use Rattle.pm_engine.proofs.LogCounts.{after_read, same_world}
use Rattle.pm_engine.proofs.frame_opening.start_counted.Goals as goal

pub start_engine-requires-clause-there : goal.start_engine-requires-clause-there
start_engine-requires-clause-there g c _ _ t =
    let old = g.H.Device.history c.args.host.now in
    let mid = g.H.Device.history c.log_bytes.new.host in
    let steps : List Step = append_all_steps c.args.log (restart_frame c.args.config.now.shape ∷ []) in
    subst (λ (w : World). EndsThere c.args.log w) (sym (same_world steps c.args.log.end old mid (c.log_bytes.ensures.same t) (g.H.Device.sound c.log_bytes.new.host t))) (c.requires.there t)

pub returns-in-Ok-start_engine-clause-steps : goal.returns-in-Ok-start_engine-clause-steps
returns-in-Ok-start_engine-clause-steps g c t =
    let old = g.H.Device.history c.args.host.now in
    let mid = g.H.Device.history c.log_bytes.new.host in
    let new = g.H.Device.history c.start_engine.new.host in
    let steps : List Step = append_all_steps c.args.log (restart_frame c.args.config.now.shape ∷ []) in
    let end : Place = c.args.log.end in
    let same = c.log_bytes.ensures.same t in
    let sound = g.H.Device.sound c.log_bytes.new.host t in
    let does = c.in-Ok-start_engine.ensures.steps t in
    record {
      all = subst (λ (w : World). new.world ≡ world_after steps end w) (same_world steps end old mid same sound) does.all;
      moments = after_read steps end old mid same sound new does.moments;
    }

pub returns-in-Err-start_engine-clause-steps : goal.returns-in-Err-start_engine-clause-steps
returns-in-Err-start_engine-clause-steps g c t =
    let old = g.H.Device.history c.args.host.now in
    let mid = g.H.Device.history c.log_bytes.new.host in
    let new = g.H.Device.history c.start_engine.new.host in
    let steps : List Step = append_all_steps c.args.log (restart_frame c.args.config.now.shape ∷ []) in
    let end : Place = c.args.log.end in
    let same = c.log_bytes.ensures.same t in
    let sound = g.H.Device.sound c.log_bytes.new.host t in
    let does = c.in-Err-start_engine.ensures.steps t in
    record {
      all = does.all;
      moments = after_read steps end old mid same sound new does.moments;
    }
