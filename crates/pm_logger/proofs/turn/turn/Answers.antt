use Rattle.std.proofs.Common.{◌≡◌, ◌<◌, refl, arith, length, Some}
use Rattle.std.specs.List.{slice_get}
use Rattle.std.proofs.lemmas.Option.{slice_get_read}
use Rattle.std.proofs.lemmas.Result.{err_from_is_err_and}
use Rattle.pm_logger.specs.Writers.{writer}
use Rattle.pm_logger.proofs.LaterStates.{same_state, later_state}
use Rattle.pm_logger.proofs.Merging.{merge_none, merge_one, merge_then}
use Rattle.pm_logger.proofs.turn.turn.Goals as goal

pub each-init : goal.each-init
each-init g c = record {
  merged = merge_none (writer (g.L.Device.history c.args.dev.now) c.args.log.now c.args.tally.now) c.args.rings.now.items (g.L.Device.sound c.args.dev.now) c.requires.end;
  state = same_state;
}

pub each-preserved : goal.each-preserved
each-preserved g c =
    let v = c.each.invariant in
    let rings = c.each.rings.items in
    let lt : c.each.worker < length rings = omega (arith, c.each-test.true, c.len-worker-end.ensures, v.merged.merges.many) in
    let there : slice_get rings c.each.worker ≡ Some c.index_mut.result.now = slice_get_read rings (length rings) c.each.worker c.index_mut.result.now refl lt c.index_mut.ensures.value in
    record {
      merged = merge_then v.merged (merge_one rings c.each.worker there c.in_ok-take_ready.ensures.appended);
      state = later_state v.state c.take_ready.ensures.cause;
    }

pub returns-in_err-take_ready-clause-appended : goal.returns-in_err-take_ready-clause-appended
returns-in_err-take_ready-clause-appended g c =
    let v = c.each.invariant in
    let rings = c.each.rings.items in
    let lt : c.each.worker < length rings = omega (arith, c.each-test.true, c.len-worker-end.ensures, v.merged.merges.many) in
    let there : slice_get rings c.each.worker ≡ Some c.index_mut.result.now = slice_get_read rings (length rings) c.each.worker c.index_mut.result.now refl lt c.index_mut.ensures.value in
    let p = err_from_is_err_and c.from_residual.result c.from_residual.ensures.1 in
    rw p.1 (merge_then v.merged (merge_one rings c.each.worker there c.in_err-take_ready.ensures.appended))
