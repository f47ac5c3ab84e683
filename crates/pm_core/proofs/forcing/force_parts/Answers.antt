use Rattle.std.proofs.Common.{◌≡◌, ◌+◌, ◌-◌, ◌++◌, refl, sym, ◌∙◌, ap, subst, arith}
use Rattle.pm_types.specs.declared.limits.TheConstants.{PARTITIONS_MAX}
use Rattle.pm_disk.specs.Moments.{AllMoments}
use Rattle.pm_core.specs.Calls.{MakesPrefix, force_steps}
use Rattle.pm_core.specs.Machine.{states, worlds}
use Rattle.pm_core.proofs.Making.{makes_none, moments_first, moments_joined, world_joined, broke_off, forces_none, forces_more, forces-append}
use Rattle.pm_core.proofs.forcing.force_parts.Goals as goal

pub each-init : goal.each-init
each-init g c =
    let old = g.H.Device.history c.args.host.now in
    let none = forces_none c.args.pages.now.items in
    record {
      state = record { later = omega arith; access = refl; usable = λ usable. usable };
      moments = λ t s. makes_none old (force_steps 0 0 c.args.pages.now.items) s (g.H.Device.sound c.args.host.now t);
      world = λ t s. ap (λ steps. worlds steps s old.world) (sym none);
    }

pub each-preserved : goal.each-preserved
each-preserved g c =
    let old = g.H.Device.history c.args.host.now in
    let mid = g.H.Device.history c.each.host in
    let new = g.H.Device.history c.force_part.new.host in
    let pages = c.args.pages.now.items in
    let n = c.each.part in
    let v = c.each.invariant in
    let more = forces_more n pages in
    record {
      state = record {
        later = omega (arith, v.state.later, c.force_part.ensures.cause.later);
        access = c.force_part.ensures.cause.access ∙ v.state.access;
        usable = λ usable. c.force_part.ensures.cause.usable (v.state.usable usable);
      };
      moments = λ t s.
          let steps = force_steps 0 n pages in
          subst (λ l. AllMoments old new (MakesPrefix l s old.world)) (sym more)
          (moments_joined old mid new steps (force_steps n 1 pages) s (v.moments t s) (v.world t s) (c.force_part.ensures.steps t (states steps s old.world)).moments);
      world = λ t s.
          let steps = force_steps 0 n pages in
          world_joined old.world mid.world new.world steps (force_steps n 1 pages) s (v.world t s) (c.in_ok-force_part.ensures.steps t (states steps s old.world)).all
          ∙ ap (λ l. worlds l s old.world) (sym more);
    }

pub returns-in_err-force_part-clause-steps : goal.returns-in_err-force_part-clause-steps
returns-in_err-force_part-clause-steps g c t s =
    let old = g.H.Device.history c.args.host.now in
    let mid = g.H.Device.history c.each.host in
    let new = g.H.Device.history c.force_part.new.host in
    let pages = c.args.pages.now.items in
    let n = c.each.part in
    let v = c.each.invariant in
    let steps = force_steps 0 n pages in
    let tried = moments_joined old mid new steps (force_steps n 1 pages) s (v.moments t s) (v.world t s) (c.force_part.ensures.steps t (states steps s old.world)).moments in
    let done = subst (λ l. AllMoments old new (MakesPrefix l s old.world)) (sym (forces_more n pages)) tried in
    let rest = PARTITIONS_MAX - (n + 1) in
    let e : n + 1 + rest ≡ PARTITIONS_MAX = omega arith in
    let z : 0 + (n + 1) ≡ n + 1 = omega arith in
    let all : force_steps 0 PARTITIONS_MAX pages ≡ force_steps 0 (n + 1) pages ++ force_steps (0 + (n + 1)) rest pages = ap (λ k. force_steps 0 k pages) (sym e) ∙ forces-append 0 (n + 1) rest pages in
    broke_off old new c.from_residual.result (force_steps 0 PARTITIONS_MAX pages) s c.from_residual.ensures.0
    (subst (λ l. AllMoments old new (MakesPrefix l s old.world)) (sym all) (moments_first old new (force_steps 0 (n + 1) pages) (force_steps (0 + (n + 1)) rest pages) s done))

pub returns-clause-steps : goal.returns-clause-steps
returns-clause-steps g c t s =
    let old = g.H.Device.history c.args.host.now in
    let now = g.H.Device.history c.each.host in
    let pages = c.args.pages.now.items in
    let at : c.each.part ≡ PARTITIONS_MAX = omega arith in
    let v = c.each.invariant in
    record {
      all = v.world t s ∙ ap (λ n. worlds (force_steps 0 n pages) s old.world) at;
      moments = subst (λ n. AllMoments old now (MakesPrefix (force_steps 0 n pages) s old.world)) at (v.moments t s);
    }
