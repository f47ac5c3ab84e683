-- The records are applied, one after the other.
use Rattle.std.proofs.Common.{◌≡◌, ◌<◌, ◌^◌, inl, inr, refl, sym, ap, ◌∙◌, subst, arith}
use Rattle.std.specs.Prelude.{Result}
use Rattle.pm_types.specs.declared.fault.StoreFault.{StoreFault}
use Rattle.pm_types.specs.declared.place.Place.{Place}
use Rattle.pm_redo.proofs.RangeReads.{place_same, place_differs}
use Rattle.pm_engine.specs.FrameReplayLogs.{StepsReplay}
use Rattle.pm_engine.proofs.ReplayedFrames.{so_far_none, so_far_more, so_far_fails, so_far_ends, passes_further}
use Rattle.pm_engine.proofs.frame_replay_log.replay_all.Goals as goal

pub frames-init : goal.frames-init
frames-init g c = record {
  state = record { later = omega arith; access = refl; usable = λ usable. usable };
  so = so_far_none g.H.Device.tells c.args.scan.now c.args.end c.args.engine (g.H.Device.history c.args.host.now) (λ t. g.H.Device.sound c.args.host.now t) c.requires.within c.requires.from_one c.requires.open c.requires.clean c.requires.there c.requires.ahead;
}

pub frames-preserved : goal.frames-preserved
frames-preserved g c =
    let tells = g.H.Device.tells in
    let v = c.frames.invariant in
    let ran = c.replay_next_in_frames-after in
    let h1 = g.H.Device.history c.frames.host in
    let h2 = g.H.Device.history ran.new.host in
    let apart : c.frames.scan.next ≡ c.args.end → ⊥ = λ is. place_differs c.next_place-next.result c.args.end c.eq.result c.eq.ensures c.if-eq.false (c.next_place-next.ensures ∙ is) in
    let steps = subst (λ (r : Result (Unit {0}) StoreFault). StepsReplay {T = Unit {0}} tells c.frames.scan ran.new.scan c.frames.running ran.result.0 h1 h2 r) c.in-Ok.is ran.ensures.steps in
    record {
      state = record {
        later = omega (arith, v.state.later, ran.ensures.cause.later);
        access = ran.ensures.cause.access ∙ v.state.access;
        usable = λ usable. ran.ensures.cause.usable (v.state.usable usable);
      };
      so = so_far_more tells c.args.scan.now c.frames.scan c.args.end c.args.engine c.frames.running ran.result.0 (g.H.Device.history c.args.host.now) h1 h2 (λ t. g.H.Device.sound c.frames.host t) v.so apart ran.new.scan steps;
    }

pub frames-smaller : goal.frames-smaller
frames-smaller g c =
    let tells = g.H.Device.tells in
    let v = c.frames.invariant in
    let ran = c.replay_next_in_frames-after in
    let h1 = g.H.Device.history c.frames.host in
    let h2 = g.H.Device.history ran.new.host in
    let steps = subst (λ (r : Result (Unit {0}) StoreFault). StepsReplay {T = Unit {0}} tells c.frames.scan ran.new.scan c.frames.running ran.result.0 h1 h2 r) c.in-Ok.is ran.ensures.steps in
    let next = c.next_place-next.ensures in
    let there : c.frames.scan.next.seg < 2 ^ 64 = omega (arith, c.segment_of-segment.type_inv, c.segment_of-segment.ensures, ap (λ (p : Place). p.seg) next) in
    elim (passes_further c.frames.scan ran.new.scan steps.passes) [
      | inl up ↦ omega (arith, up, there, steps.bound, v.so.bound)
      | inr on ↦ omega (arith, on.0, on.1, there, steps.bound, v.so.bound)
    ]

pub returns-then-eq-clause-replays : goal.returns-then-eq-clause-replays
returns-then-eq-clause-replays g c =
    let at = place_same c.next_place-next.result c.args.end c.eq.result c.eq.ensures c.if-eq.true in
    so_far_ends g.H.Device.tells c.args.scan.now c.frames.scan c.args.end c.args.engine c.frames.running (g.H.Device.history c.args.host.now) (g.H.Device.history c.frames.host) c.frames.invariant.so (sym c.next_place-next.ensures ∙ at)

pub returns-in-Err-clause-replays : goal.returns-in-Err-clause-replays
returns-in-Err-clause-replays g c =
    let tells = g.H.Device.tells in
    let v = c.frames.invariant in
    let ran = c.replay_next_in_frames-after in
    let h1 = g.H.Device.history c.frames.host in
    let h2 = g.H.Device.history ran.new.host in
    let apart : c.frames.scan.next ≡ c.args.end → ⊥ = λ is. place_differs c.next_place-next.result c.args.end c.eq.result c.eq.ensures c.if-eq.false (c.next_place-next.ensures ∙ is) in
    let steps = subst (λ (r : Result (Unit {0}) StoreFault). StepsReplay {T = Unit {0}} tells c.frames.scan ran.new.scan c.frames.running ran.result.0 h1 h2 r) c.in-Err.is ran.ensures.steps in
    so_far_fails tells c.args.scan.now c.frames.scan c.args.end c.args.engine c.frames.running ran.result.0 (g.H.Device.history c.args.host.now) h1 h2 (λ t. g.H.Device.sound c.frames.host t) v.so apart ran.new.scan c.in-Err.fault steps
