use Rattle.std.proofs.Common.{◌<◌, length, false, set, sym, arith}
use Rattle.pm_policies.proofs.Rings.{passed_none, no_place, passed_more, stands_next, stops_early, stops_late}
use Rattle.pm_policies.proofs.clock.sweep.Goals as goal

pub passes-init : goal.passes-init
passes-init c = record {
  passed = passed_none c.args.marks.now c.args.hand;
  stands = sym (no_place (length c.args.marks.now) c.args.hand c.requires);
  within = c.requires;
}

pub returns-then-is_clear-clause-swept : goal.returns-then-is_clear-clause-swept
returns-then-is_clear-clause-swept c =
    let so_far = c.passes.invariant in
    stops_early c.args.marks.now c.passes.marks c.args.hand c.passes.counter c.passes.at c.requires so_far.passed so_far.stands (omega (arith, so_far.passed.same_length)) c.if-is_clear.ensures.clear

pub passes-preserved : goal.passes-preserved
passes-preserved c =
    let so_far = c.passes.invariant in
    let more : c.passes.counter < length c.args.marks.now = omega (arith, so_far.passed.same_length) in
    let passed = passed_more c.args.marks.now c.passes.marks c.args.hand c.passes.counter c.passes.at c.requires so_far.passed so_far.stands more c.if-is_clear.ensures.marked in
    record {
      passed = passed;
      stands = stands_next c.args.marks.now (length (set c.passes.marks c.passes.at false)) c.args.hand c.passes.counter c.passes.at c.following-at.result c.requires more so_far.stands passed.same_length c.following-at.ensures.next;
      within = c.following-at.ensures.within;
    }

pub returns-clause-swept : goal.returns-clause-swept
returns-clause-swept c =
    let so_far = c.passes.invariant in
    stops_late c.args.marks.now c.passes.marks c.args.hand c.passes.counter c.passes.at c.requires so_far.passed so_far.stands (omega (arith, so_far.passed.same_length))
