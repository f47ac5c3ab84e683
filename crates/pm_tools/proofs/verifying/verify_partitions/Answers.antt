use Rattle.std.proofs.Common.{◌≡◌, ◌∙◌, refl, sym, subst, arith}
use Rattle.pm_disk.proofs.Chain.{joined, at_last}
use Rattle.pm_disk.specs.Moments.{AllMoments}
use Rattle.pm_disk.specs.Worlds.{World}
use Rattle.pm_redo.specs.Loading.{BaseIs}
use Rattle.pm_redo.specs.Rebuilding.{IsSame}
use Rattle.pm_tools.specs.Verifying.{HasCounted}
use Rattle.pm_tools.proofs.Verified.{counts_more}
use Rattle.pm_tools.proofs.verifying.verify_partitions.Goals as goal

pub each-preserved : goal.each-preserved
each-preserved g c =
    let old = g.H.Device.history c.args.host.now in
    let before = g.H.Device.history c.each.host in
    let now = g.H.Device.history c.verify_partition.new.host in
    let cause = c.verify_partition.ensures.cause in
    let v = c.each.invariant in
    let one = c.in_ok-one.one in
    let same = λ (t : g.H.Device.tells). joined old before now (IsSame old.world) (v.same t)
    (subst (λ (w : World). AllMoments before now (IsSame w)) (v.world t) (c.verify_partition.ensures.same t)) in
    record {
      state = record {
        later = omega (arith, v.state.later, cause.later);
        access = cause.access ∙ v.state.access;
        usable = λ usable. cause.usable (v.state.usable usable);
      };
      upto = omega (arith, c.each-test.true);
      pages = omega (arith, v.pages, c.in_ok-one.ensures.few.0);
      rows = omega (arith, v.rows, c.in_ok-one.ensures.few.1);
      same = same;
      world = λ t. at_last old now (IsSame old.world) (g.H.Device.sound c.verify_partition.new.host t) (same t);
      counted = λ t base is.
          let is_there = subst (λ (w : World). BaseIs c.args.pictures.now w base) (sym (v.world t)) is in
          counts_more c.args.shape.now base c.each.part c.each.counts one _ (v.counted t base is) (c.in_ok-one.ensures.sound t base is_there) refl refl;
    }

pub returns-clause-sound : goal.returns-clause-sound
returns-clause-sound g c t base is =
    let v = c.each.invariant in
    let shape = c.args.shape.now in
    let all : c.each.part ≡ shape.partitions = omega (arith, v.upto, c.each-test.false) in
    subst (λ n. HasCounted shape base n c.each.counts) all (v.counted t base is)
