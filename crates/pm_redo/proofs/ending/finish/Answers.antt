use Rattle.std.proofs.lemmas.Result.{on_ok_weaker}
use Rattle.pm_types.specs.declared.limits.TheConstants.{PARTITIONS_MAX}
use Rattle.pm_core.specs.Calls.{end_steps, force_steps, finish_steps}
use Rattle.pm_core.specs.Machine.{states}
use Rattle.pm_core.proofs.Making.{end_moments, moments_first, moments_joined, world_joined, broke_off}
use Rattle.pm_redo.proofs.ending.finish.Goals as goal

pub returns-in_err-force_parts-clause-steps : goal.returns-in_err-force_parts-clause-steps
returns-in_err-force_parts-clause-steps g c t s =
    let old = g.H.Device.history c.args.host.now in
    let mid = g.H.Device.history c.force_parts.new.host in
    let pages = c.args.pages.now.items in
    let forced = moments_first old mid (force_steps 0 PARTITIONS_MAX pages) (end_steps c.args.mark.now) s (c.force_parts.ensures.steps t s).moments in
    broke_off old mid c.from_residual.result (finish_steps c.args.mark.now pages) s c.from_residual.ensures.0 forced

pub returns-clause-steps : goal.returns-clause-steps
returns-clause-steps g c t s =
    let old = g.H.Device.history c.args.host.now in
    let mid = g.H.Device.history c.force_parts.new.host in
    let new = g.H.Device.history c.write_end.new.host in
    let pages = c.args.pages.now.items in
    let mark = c.args.mark.now in
    let steps = force_steps 0 PARTITIONS_MAX pages in
    let first = (c.in_ok-force_parts.ensures.steps t s).all in
    let wrote = c.write_end.ensures.writes t in
    record {
      all = on_ok_weaker c.write_end.result (λ forced. world_joined old.world mid.world new.world steps (end_steps mark) s first forced) wrote.forced;
      moments = moments_joined old mid new steps (end_steps mark) s (c.force_parts.ensures.steps t s).moments first (end_moments mid new mark (states steps s old.world) wrote.moments);
    }
