use Rattle.std.proofs.Common.{◌≡◌, ◌-◌, sym, subst, arith, true, [], ◌++◌, take, drop}
use Rattle.std.specs.Prelude.{if◌then◌else◌}
use Rattle.std.proofs.lemmas.Result.{err_from_is_err_and}
use Rattle.pm_logger.specs.Inboxes.{AppendsGiven}
use Rattle.pm_logger.specs.Writers.{writer}
use Rattle.pm_logger.proofs.Joining.{take_piece}
use Rattle.pm_logger.proofs.LaterStates.{same_state, later_state}
use Rattle.pm_logger.proofs.Taking.{given_none, given_then, given_end, given_kept}
use Rattle.pm_logger.proofs.drain.take_given.Goals as goal

pub each-init : goal.each-init
each-init g c =
    let before = writer (g.L.Device.history c.args.dev.now) c.args.log.now c.args.tally.now in
    record {
      taken = subst (λ n. AppendsGiven g.L.Device.tells before before true c.args.inbox.now c.args.inbox.now (take n c.args.bytes.now)) (sym c.requires.front)
          (given_none before c.args.inbox.now (g.L.Device.sound c.args.dev.now) c.requires.end);
      within = omega (arith, c.requires.front);
      state = same_state;
    }

pub each-preserved : goal.each-preserved
each-preserved g c =
    let before = writer (g.L.Device.history c.args.dev.now) c.args.log.now c.args.tally.now in
    let now = writer (g.L.Device.history c.take_piece.new.dev) c.take_piece.new.log c.take_piece.new.tally in
    let v = c.each.invariant in
    let end = c.next_cut-end.result in
    let piece = take (end - c.each.at) (drop c.each.at c.args.bytes.now) in
    let between = writer (g.L.Device.history c.each.dev) c.each.log c.each.tally in
    let taken = subst (λ took. AppendsGiven g.L.Device.tells between now true c.each.inbox c.take_piece.new.self (if took then piece else [])) c.if-not-took.false c.in_ok-took.ensures.appended in
    let all : take c.each.at c.args.bytes.now ++ piece ≡ take end c.args.bytes.now = take_piece c.each.at end c.args.bytes.now (omega (arith, c.next_cut-end.ensures.later)) v.within in
    record {
      taken = subst (λ given. AppendsGiven g.L.Device.tells before now true c.args.inbox.now c.take_piece.new.self given) all
          (given_then v.taken piece taken);
      within = c.next_cut-end.ensures.within;
      state = later_state v.state c.take_piece.ensures.cause;
    }

pub returns-in_err-took-clause-appended : goal.returns-in_err-took-clause-appended
returns-in_err-took-clause-appended g c =
    let p = err_from_is_err_and c.from_residual.result c.from_residual.ensures.1 in
    rw p.1 (given_end c.each.invariant.taken c.in_err-took.ensures.appended)

pub returns-then-not-took-clause-appended : goal.returns-then-not-took-clause-appended
returns-then-not-took-clause-appended g c =
    let now = writer (g.L.Device.history c.take_piece.new.dev) c.take_piece.new.log c.take_piece.new.tally in
    let between = writer (g.L.Device.history c.each.dev) c.each.log c.each.tally in
    let piece = take (c.next_cut-end.result - c.each.at) (drop c.each.at c.args.bytes.now) in
    given_end c.each.invariant.taken
    (subst (λ took. AppendsGiven g.L.Device.tells between now true c.each.inbox c.take_piece.new.self (if took then piece else [])) c.if-not-took.true c.in_ok-took.ensures.appended)

pub returns-in_err-append_kept-clause-appended : goal.returns-in_err-append_kept-clause-appended
returns-in_err-append_kept-clause-appended g c =
    let p = err_from_is_err_and c.from_residual-in_err-append_kept.result c.from_residual-in_err-append_kept.ensures.1 in
    rw p.1 (given_end c.each.invariant.taken (given_kept c.append_kept.ensures.ring c.in_err-append_kept.ensures.appended))

pub returns-clause-appended : goal.returns-clause-appended
returns-clause-appended g c = given_end c.each.invariant.taken (given_kept c.append_kept.ensures.ring c.in_ok-append_kept.ensures.appended)
