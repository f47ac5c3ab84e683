use Rattle.std.proofs.Common.{sym, ap, subst}
use Rattle.std.specs.Prelude.{is_ok}
use Rattle.pm_logger.specs.LogCalls.{DoesCalls}
use Rattle.pm_logger.specs.Writers.{Counts, writer}
use Rattle.pm_logger.proofs.Forcing.{forces, does_force}
use Rattle.pm_logger.proofs.append.count_operation.Goals as goal

pub returns-then-count-clause-forced : goal.returns-then-count-clause-forced
returns-then-count-clause-forced g c =
    let before = writer (g.L.Device.history c.args.dev.now) c.args.log.now c.args.tally.now in
    let now = writer (g.L.Device.history c.force.new.dev) c.force.new.self c.count.new.self in
    subst (DoesCalls g.L.Device.tells before now (is_ok c.force.result)) (sym (forces c.args.tally.now.since (c.count.ensures.last.0 c.if-count.true)))
    (does_force before now c.force.ensures.unmoved (ap (λ (t : Counts). t.lines) c.count.ensures.counted) (g.L.Device.sound c.args.dev.now) c.requires.end c.force.result c.force.ensures.does)
