use Rattle.std.proofs.lemmas.Result.{err_from_is_err_and}
use Rattle.pm_logger.specs.Writers.{writer}
use Rattle.pm_logger.proofs.LaterStates.{same_state, later_state}
use Rattle.pm_logger.proofs.Merging.{merge_none, merge_then}
use Rattle.pm_logger.proofs.turn.turns.Goals as goal

pub each-init : goal.each-init
each-init g c = record {
  merged = merge_none (writer (g.L.Device.history c.args.dev.now) c.args.log.now c.args.tally.now) c.args.rings.now.items (g.L.Device.sound c.args.dev.now) c.requires.end;
  state = same_state;
}

pub each-preserved : goal.each-preserved
each-preserved g c = record {
  merged = merge_then c.each.invariant.merged c.in_ok-turn.ensures.appended;
  state = later_state c.each.invariant.state c.turn.ensures.cause;
}

pub returns-in_err-turn-clause-appended : goal.returns-in_err-turn-clause-appended
returns-in_err-turn-clause-appended g c =
    let p = err_from_is_err_and c.from_residual.result c.from_residual.ensures.1 in
    rw p.1 (merge_then c.each.invariant.merged c.in_err-turn.ensures.appended)

pub returns-then-is_full-clause-appended : goal.returns-then-is_full-clause-appended
returns-then-is_full-clause-appended g c = merge_then c.each.invariant.merged c.in_ok-turn.ensures.appended
