use Rattle.std.proofs.Common.{◌≡◌, ◌<◌, ◌≤◌, refl, arith, length, Some, get_or}
use Rattle.std.specs.List.{slice_get}
use Rattle.std.proofs.lemmas.Option.{slice_get_read}
use Rattle.std.proofs.lemmas.Result.{err_from_is_err_and}
use Rattle.pm_logger.specs.Writers.{writer}
use Rattle.pm_logger.proofs.Emptying.{end_at, emptied_all, linked_set, ends_none, ends_set, emptied_none, emptied_set}
use Rattle.pm_logger.proofs.LaterStates.{same_state, later_state}
use Rattle.pm_logger.proofs.Merging.{merge_none, merge_one, merge_then, noted_more}
use Rattle.pm_logger.proofs.rest.take_all.Goals as goal

pub each-init : goal.each-init
each-init g c = record {
  merged = merge_none (writer (g.L.Device.history c.args.dev.now) c.args.log.now c.args.tally.now) c.args.rings.now.items (g.L.Device.sound c.args.dev.now) c.requires.end;
  linked = c.requires.linked;
  ends = ends_none c.args.ends.now;
  emptied = emptied_none (length c.args.tally.now.lines) c.args.ends.now c.args.rings.now.items;
  state = same_state;
}

pub each-preserved : goal.each-preserved
each-preserved g c =
    let v = c.each.invariant in
    let rings = c.each.rings.items in
    let lt : c.each.worker < length rings = omega (arith, c.each-test.true, c.len-worker-end.ensures, v.merged.merges.many) in
    let there : slice_get rings c.each.worker ≡ Some c.index_mut.result.now = slice_get_read rings (length rings) c.each.worker c.index_mut.result.now refl lt c.index_mut.ensures.value in
    let call = c.take_rest.ensures in
    let one = merge_one rings c.each.worker there c.in_ok-take_rest.ensures.appended in
    record {
      merged = merge_then v.merged one;
      linked = linked_set c.each.ends rings c.each.worker c.take_rest.new.end c.take_rest.new.inbox v.linked call.pair;
      ends = ends_set c.args.ends.now c.each.ends c.each.worker (get_or c.each.ends c.each.worker c.index-ends-worker.result) c.take_rest.new.end v.ends (end_at c.each.ends rings c.each.worker c.index-ends-worker.result v.linked lt) call.same;
      emptied = emptied_set (length c.each.tally.lines) (length c.take_rest.new.tally.lines) c.each.ends rings c.each.worker c.take_rest.new.end c.take_rest.new.inbox
          (noted_more one.appends) v.emptied c.in_ok-take_rest.ensures.emptied;
      state = later_state v.state call.cause;
    }

pub returns-in_err-take_rest-clause-appended : goal.returns-in_err-take_rest-clause-appended
returns-in_err-take_rest-clause-appended g c =
    let v = c.each.invariant in
    let rings = c.each.rings.items in
    let lt : c.each.worker < length rings = omega (arith, c.each-test.true, c.len-worker-end.ensures, v.merged.merges.many) in
    let there : slice_get rings c.each.worker ≡ Some c.index_mut.result.now = slice_get_read rings (length rings) c.each.worker c.index_mut.result.now refl lt c.index_mut.ensures.value in
    let p = err_from_is_err_and c.from_residual.result c.from_residual.ensures.1 in
    rw p.1 (merge_then v.merged (merge_one rings c.each.worker there c.in_err-take_rest.ensures.appended))

pub returns-in_err-take_rest-clause-linked : goal.returns-in_err-take_rest-clause-linked
returns-in_err-take_rest-clause-linked g c =
    linked_set c.each.ends c.each.rings.items c.each.worker c.take_rest.new.end c.take_rest.new.inbox c.each.invariant.linked c.take_rest.ensures.pair

pub returns-in_err-take_rest-clause-ends : goal.returns-in_err-take_rest-clause-ends
returns-in_err-take_rest-clause-ends g c =
    let v = c.each.invariant in
    let lt : c.each.worker < length c.each.rings.items = omega (arith, c.each-test.true, c.len-worker-end.ensures, v.merged.merges.many) in
    ends_set c.args.ends.now c.each.ends c.each.worker (get_or c.each.ends c.each.worker c.index-ends-worker.result) c.take_rest.new.end v.ends
    (end_at c.each.ends c.each.rings.items c.each.worker c.index-ends-worker.result v.linked lt) c.take_rest.ensures.same

pub returns-clause-emptied : goal.returns-clause-emptied
returns-clause-emptied g c =
    let v = c.each.invariant in
    let all : length c.each.ends ≤ c.each.worker = omega (arith, c.each-test.false, c.len-worker-end.ensures, v.merged.merges.many, v.linked.many) in
    emptied_all (length c.each.tally.lines) c.each.worker c.each.ends c.each.rings.items all v.emptied
