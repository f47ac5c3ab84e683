use Rattle.std.proofs.Common.{◌≡◌, inr, ◌+◌, ◌-◌, ◌++◌, refl, sym, ◌∙◌, ap, subst, arith}
use Rattle.pm_disk.specs.Moments.{AllMoments}
use Rattle.pm_records.specs.LogSteps.{world_after, end_after, DoesPrefix}
use Rattle.pm_records.proofs.Tracing.{steps_none, moments_first, moments_joined, world_joined, broke_off}
use Rattle.pm_segments.specs.Drops.{drop_one, drop_steps, AreDropped}
use Rattle.pm_segments.proofs.Removed.{drops_none, drops_more, drops-append, same_drop, dropped_none, dropped_then}
use Rattle.pm_segments.proofs.dropping.drop_range.Goals as goal

pub each-init : goal.each-init
each-init g c =
    let old = g.H.Device.history c.args.host.now in
    let from = c.args.from in
    let z : from - from ≡ 0 = omega arith in
    let none = ap (λ n. drop_steps from n old.world) z ∙ drops_none from old.world in
    record {
      state = record { later = omega arith; access = refl; usable = λ usable. usable };
      dropped = λ t. dropped_none from old.world;
      moments = λ t end. steps_none old (drop_steps from (from - from) old.world) end (g.H.Device.sound c.args.host.now t);
      world = λ t end. ap (λ steps. world_after steps end old.world) (sym none);
    }

pub each-preserved : goal.each-preserved
each-preserved g c =
    let old = g.H.Device.history c.args.host.now in
    let mid = g.H.Device.history c.each.host in
    let new = g.H.Device.history c.drop_one.new.host in
    let from = c.args.from in
    let seg = c.each.seg in
    let n = seg - from in
    let v = c.each.invariant in
    let e : seg + 1 - from ≡ n + 1 = omega arith in
    let f : from + n ≡ seg = omega arith in
    let more : drop_steps from (seg + 1 - from) old.world ≡ drop_steps from n old.world ++ drop_one seg old.world =
    ap (λ k. drop_steps from k old.world) e ∙ drops_more from n old.world ∙ ap (λ k. drop_steps from n old.world ++ drop_one k old.world) f in
    record {
      state = record {
        later = omega (arith, v.state.later, c.drop_one.ensures.cause.later);
        access = c.drop_one.ensures.cause.access ∙ v.state.access;
        usable = λ usable. c.drop_one.ensures.cause.usable (v.state.usable usable);
      };
      dropped = λ t. dropped_then from seg old.world mid.world new.world (omega arith) (v.dropped t) (c.in_ok-drop_one.ensures.dropped t);
      moments = λ t end.
          let steps = drop_steps from n old.world in
          let same = same_drop seg old.world mid.world ((v.dropped t).others seg (inr (omega arith))) in
          subst (λ l. AllMoments old new (DoesPrefix l end old.world)) (sym more)
          (moments_joined old mid new steps (drop_one seg old.world) end (v.moments t end) (v.world t end)
          (subst (λ l. AllMoments mid new (DoesPrefix l (end_after steps end) mid.world)) same (c.drop_one.ensures.steps t (end_after steps end)).moments));
      world = λ t end.
          let steps = drop_steps from n old.world in
          let same = same_drop seg old.world mid.world ((v.dropped t).others seg (inr (omega arith))) in
          world_joined old.world mid.world new.world steps (drop_one seg old.world) end (v.world t end)
          ((c.in_ok-drop_one.ensures.steps t (end_after steps end)).all ∙ ap (λ l. world_after l (end_after steps end) mid.world) same)
          ∙ ap (λ l. world_after l end old.world) (sym more);
    }

pub returns-in_err-drop_one-clause-steps : goal.returns-in_err-drop_one-clause-steps
returns-in_err-drop_one-clause-steps g c t end =
    let old = g.H.Device.history c.args.host.now in
    let mid = g.H.Device.history c.each.host in
    let new = g.H.Device.history c.drop_one.new.host in
    let from = c.args.from in
    let seg = c.each.seg in
    let n = seg - from in
    let v = c.each.invariant in
    let steps = drop_steps from n old.world in
    let same = same_drop seg old.world mid.world ((v.dropped t).others seg (inr (omega arith))) in
    let tried = moments_joined old mid new steps (drop_one seg old.world) end (v.moments t end) (v.world t end)
    (subst (λ l. AllMoments mid new (DoesPrefix l (end_after steps end) mid.world)) same (c.drop_one.ensures.steps t (end_after steps end)).moments) in
    let f : from + n ≡ seg = omega arith in
    let more : drop_steps from (n + 1) old.world ≡ steps ++ drop_one seg old.world =
    drops_more from n old.world ∙ ap (λ k. steps ++ drop_one k old.world) f in
    let done = subst (λ l. AllMoments old new (DoesPrefix l end old.world)) (sym more) tried in
    let rest = c.args.to - (seg + 1) in
    let e : n + 1 + rest ≡ c.args.to - from = omega arith in
    let all : drop_steps from (c.args.to - from) old.world ≡ drop_steps from (n + 1) old.world ++ drop_steps (from + (n + 1)) rest old.world =
    ap (λ k. drop_steps from k old.world) (sym e) ∙ drops-append from (n + 1) rest old.world in
    broke_off old new c.from_residual.result (drop_steps from (c.args.to - from) old.world) end c.from_residual.ensures.0
    (subst (λ l. AllMoments old new (DoesPrefix l end old.world)) (sym all)
    (moments_first old new (drop_steps from (n + 1) old.world) (drop_steps (from + (n + 1)) rest old.world) end done))

pub returns-clause-steps : goal.returns-clause-steps
returns-clause-steps g c t end =
    let old = g.H.Device.history c.args.host.now in
    let now = g.H.Device.history c.each.host in
    let from = c.args.from in
    let at : c.each.seg ≡ c.args.to = omega arith in
    let v = c.each.invariant in
    record {
      all = v.world t end ∙ ap (λ n. world_after (drop_steps from (n - from) old.world) end old.world) at;
      moments = subst (λ n. AllMoments old now (DoesPrefix (drop_steps from (n - from) old.world) end old.world)) at (v.moments t end);
    }

pub returns-clause-dropped : goal.returns-clause-dropped
returns-clause-dropped g c t =
    let at : c.each.seg ≡ c.args.to = omega arith in
    subst (λ n. AreDropped c.args.from n (g.H.Device.history c.args.host.now).world (g.H.Device.history c.each.host).world) at (c.each.invariant.dropped t)
