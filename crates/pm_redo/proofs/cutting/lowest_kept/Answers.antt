use Rattle.std.proofs.Common.{◌-◌, refl, sym, ◌∙◌, ap, arith}
use Rattle.pm_disk.specs.Worlds.{World}
use Rattle.pm_disk.proofs.Chain.{started, does}
use Rattle.pm_segments.specs.Drops.{is_there}
use Rattle.pm_redo.specs.Rebuilding.{IsSame}
use Rattle.pm_redo.proofs.LowestKept.{gone_below, one_lower}
use Rattle.pm_redo.proofs.cutting.lowest_kept.Goals as goal

pub segments-init : goal.segments-init
segments-init g c =
    let old = g.H.Device.history c.args.host.now in
    record {
      state = record { later = omega arith; access = refl; usable = λ usable. usable };
      below = omega arith;
      from_one = λ from. from;
      same = λ t. started old (IsSame old.world) (g.H.Device.sound c.args.host.now t) refl;
      world = λ t. refl;
      there = λ t seg from to. absurd (omega (arith, from, to));
    }

pub segments-preserved : goal.segments-preserved
segments-preserved g c =
    let old = g.H.Device.history c.args.host.now in
    let before = g.H.Device.history c.segments.host in
    let now = g.H.Device.history c.is_there.new.host in
    let v = c.segments.invariant in
    let lowest = c.segments.lowest in
    record {
      state = record {
        later = omega (arith, v.state.later, c.is_there.ensures.cause.later);
        access = c.is_there.ensures.cause.access ∙ v.state.access;
        usable = λ usable. c.is_there.ensures.cause.usable (v.state.usable usable);
      };
      below = omega (arith, v.below);
      from_one = λ from. omega (arith, c.segments-test.true);
      same = λ t. does old before now c.is_there.result before.world (IsSame old.world) (v.same t) (c.is_there.ensures.does t) (v.world t) (v.world t);
      world = λ t. (c.in_ok-is_there.ensures.does t).ok ∙ v.world t;
      there = λ t.
          let is = ap (λ (w : World). is_there (lowest - 1) w) (sym (v.world t)) ∙ sym (c.in_ok-is_there.ensures.found t) ∙ c.if-not-branch.false in
          one_lower old.world c.args.first lowest is (v.there t);
    }

pub returns-in_err-is_there-clause-same : goal.returns-in_err-is_there-clause-same
returns-in_err-is_there-clause-same g c t =
    let old = g.H.Device.history c.args.host.now in
    let before = g.H.Device.history c.segments.host in
    let v = c.segments.invariant in
    does old before (g.H.Device.history c.is_there.new.host) c.is_there.result before.world (IsSame old.world) (v.same t) (c.is_there.ensures.does t) (v.world t) (v.world t)

pub returns-then-not-branch-clause-same : goal.returns-then-not-branch-clause-same
returns-then-not-branch-clause-same g c t =
    let old = g.H.Device.history c.args.host.now in
    let before = g.H.Device.history c.segments.host in
    let v = c.segments.invariant in
    does old before (g.H.Device.history c.is_there.new.host) c.is_there.result before.world (IsSame old.world) (v.same t) (c.is_there.ensures.does t) (v.world t) (v.world t)

pub returns-then-not-branch-clause-lowest : goal.returns-then-not-branch-clause-lowest
returns-then-not-branch-clause-lowest g c t =
    let old = g.H.Device.history c.args.host.now in
    let v = c.segments.invariant in
    let lowest = c.segments.lowest in
    let is = ap (λ (w : World). is_there (lowest - 1) w) (sym (v.world t)) ∙ sym (c.in_ok-is_there.ensures.found t) ∙ c.if-not-branch.true in
    record { below = v.below; from_one = v.from_one; there = v.there t; gone = λ more. gone_below old.world (lowest - 1) is }

pub returns-clause-lowest : goal.returns-clause-lowest
returns-clause-lowest g c t =
    let v = c.segments.invariant in
    record { below = v.below; from_one = v.from_one; there = v.there t; gone = λ more. absurd (omega (arith, more, c.segments-test.false)) }
