use Rattle.std.proofs.Common.{◌≡◌, ◌+◌, ◌-◌, true, drop, take, sym, subst, arith}
use Rattle.std.proofs.lemmas.List.{drop-drop, length-drop, take_rest}
use Rattle.std.proofs.lemmas.Result.{err_from_is_err_and}
use Rattle.pm_logger.specs.Fronts.{IsWholeFront, AppendsFront}
use Rattle.pm_records.specs.Operations.{SpellOperation}
use Rattle.pm_logger.specs.Writers.{writer}
use Rattle.pm_logger.proofs.Appending.{front_none, front_next, front_one, front_failed}
use Rattle.pm_logger.proofs.LaterStates.{same_state, later_state}
use Rattle.pm_logger.proofs.front.append_front.Goals as goal

pub each-init : goal.each-init
each-init g c =
    let before = writer (g.L.Device.history c.args.dev.now) c.args.log.now c.args.tally.now in
    record {
      front = subst (λ n. AppendsFront g.L.Device.tells before before true c.args.bytes.now (drop n c.args.bytes.now)) (sym c.requires.front)
          (front_none before c.args.bytes.now (g.L.Device.sound c.args.dev.now) c.requires.end);
      within = omega (arith, c.requires.front);
      state = same_state;
    }

pub returns-in_err-append_operation-clause-appended : goal.returns-in_err-append_operation-clause-appended
returns-in_err-append_operation-clause-appended g c =
    let p = err_from_is_err_and c.from_residual.result c.from_residual.ensures.1 in
    let bytes = drop c.each.at c.args.bytes.now in
    let whole : IsWholeFront bytes c.in-Ok.len = subst (λ b. IsWholeFront b c.in-Ok.len) (take_rest c.args.bytes.now c.each.at) c.in-Ok.ensures.0 in
    let long : c.each.at + c.in-Ok.len - c.each.at ≡ c.in-Ok.len = omega arith in
    let spelled = subst (λ n. SpellOperation (take n bytes) whole.2.0) (sym long) whole.2.1 in
    rw p.1 (front_next c.each.invariant.front (front_failed bytes c.in-Ok.len whole.2.0 whole.2.1 (c.in_err-append_operation.ensures.appended whole.2.0 spelled)))

pub each-preserved : goal.each-preserved
each-preserved g c =
    let before = writer (g.L.Device.history c.args.dev.now) c.args.log.now c.args.tally.now in
    let now = writer (g.L.Device.history c.append_operation.new.dev) c.append_operation.new.log c.append_operation.new.tally in
    let bytes = drop c.each.at c.args.bytes.now in
    let whole : IsWholeFront bytes c.in-Ok.len = subst (λ b. IsWholeFront b c.in-Ok.len) (take_rest c.args.bytes.now c.each.at) c.in-Ok.ensures.0 in
    let long : c.each.at + c.in-Ok.len - c.each.at ≡ c.in-Ok.len = omega arith in
    let spelled = subst (λ n. SpellOperation (take n bytes) whole.2.0) (sym long) whole.2.1 in
    let one = front_one bytes c.in-Ok.len whole.2.0 whole.2.1 c.in_ok-append_operation.ensures.since (c.in_ok-append_operation.ensures.appended whole.2.0 spelled) in
    record {
      front = subst (λ left. AppendsFront g.L.Device.tells before now true c.args.bytes.now left) (drop-drop c.in-Ok.len c.each.at c.args.bytes.now) (front_next c.each.invariant.front one);
      within = omega (arith, whole.1, length-drop c.each.at c.args.bytes.now, c.each.invariant.within);
      state = later_state c.each.invariant.state c.append_operation.ensures.cause;
    }
