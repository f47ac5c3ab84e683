use Rattle.pm_core.specs.Calls.{begin_steps}
use Rattle.pm_core.proofs.Making.{start_moments, broke_off}
use Rattle.pm_core.proofs.checkpoint.Idle.begin.Goals as goal

pub returns-in_err-write_start-clause-steps : goal.returns-in_err-write_start-clause-steps
returns-in_err-write_start-clause-steps g c t s rebuilt =
    let old = g.H.Device.history c.args.host.now in
    let new = g.H.Device.history c.write_start.new.host in
    broke_off old new c.from_residual.result (begin_steps c.args.mark rebuilt) s c.from_residual.ensures.0 (start_moments old new c.args.mark rebuilt s (c.write_start.ensures.writes t).moments)

pub returns-clause-steps : goal.returns-clause-steps
returns-clause-steps g c t s rebuilt =
    let old = g.H.Device.history c.args.host.now in
    let new = g.H.Device.history c.write_start.new.host in
    record { all = (c.in_ok-write_start.ensures.writes t).forced; moments = start_moments old new c.args.mark rebuilt s (c.write_start.ensures.writes t).moments }
