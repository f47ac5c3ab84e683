use Rattle.std.proofs.lemmas.Result.{err_from_is_err_and}
use Rattle.pm_logger.specs.Writers.{writer}
use Rattle.pm_logger.proofs.LaterStates.{same_state, later_state}
use Rattle.pm_logger.proofs.Taking.{seen_none, seen_then, taken_none, taken_then, kept_appended}
use Rattle.pm_logger.proofs.drain.take_known.Goals as goal

pub each-init : goal.each-init
each-init g c = record {
  taken = taken_none (writer (g.L.Device.history c.args.dev.now) c.args.log.now c.args.tally.now) c.args.inbox.now (g.L.Device.sound c.args.dev.now) c.requires.end;
  seen = seen_none c.args.inbox.now;
  state = same_state;
}

pub each-preserved : goal.each-preserved
each-preserved g c = record {
  taken = taken_then c.each.invariant.taken c.in_ok-took.ensures.appended;
  seen = seen_then c.each.invariant.seen c.take_block.ensures.seen;
  state = later_state c.each.invariant.state c.take_block.ensures.cause;
}

pub returns-in_err-took-clause-appended : goal.returns-in_err-took-clause-appended
returns-in_err-took-clause-appended g c =
    let p = err_from_is_err_and c.from_residual.result c.from_residual.ensures.1 in
    rw p.1 (taken_then c.each.invariant.taken c.in_err-took.ensures.appended)

pub returns-then-not-took-clause-appended : goal.returns-then-not-took-clause-appended
returns-then-not-took-clause-appended g c = taken_then c.each.invariant.taken c.in_ok-took.ensures.appended

pub returns-in_err-append_kept-clause-appended : goal.returns-in_err-append_kept-clause-appended
returns-in_err-append_kept-clause-appended g c =
    let p = err_from_is_err_and c.from_residual-in_err-append_kept.result c.from_residual-in_err-append_kept.ensures.1 in
    rw p.1 (taken_then c.each.invariant.taken (kept_appended c.append_kept.ensures.ring c.in_err-append_kept.ensures.appended))

pub returns-clause-appended : goal.returns-clause-appended
returns-clause-appended g c = taken_then c.each.invariant.taken (kept_appended c.append_kept.ensures.ring c.in_ok-append_kept.ensures.appended)
