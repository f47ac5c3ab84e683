use Rattle.std.proofs.Common.{◌≡◌, ◌∙◌, [], false, None, refl, ap, sym, subst, arith}
use Rattle.pm_disk.proofs.Chain.{started, does, at_last}
use Rattle.pm_records.specs.LogFiles.{contents}
use Rattle.pm_segments.specs.Scans.{Scanned, IsAhead, bytes_after}
use Rattle.pm_redo.specs.Rebuilding.{TakesNext, IsSame, TakesPrefix, IsBeginRead, RebuildsOr, CanNotRebuild, first_bad, refused_after, bad_at_begin}
use Rattle.pm_redo.proofs.RangeReads.{takes_none, takes_more, takes_all, takes_bad, takes_begin, no_bytes, place_same, place_differs}
use Rattle.pm_redo.proofs.log_pages.read_range.Goals as goal

pub frames-init : goal.frames-init
frames-init g c =
    let old = g.H.Device.history c.args.host.now in
    let scan = c.in_ok-scan.scan in
    let is = c.in_ok-scan.ensures in
    let mark = c.args.mark.now in
    record {
      state = record { later = omega arith; access = refl; usable = λ usable. usable };
      shape = c.requires.shape;
      bound = omega (arith, ap (λ (s : Scanned). s.next.off) is, c.requires.mark.from.within);
      same = λ t. started old (IsSame old.world) (g.H.Device.sound c.args.host.now t) refl;
      world = λ t. refl;
      ahead = λ t. subst (λ (s : Scanned). IsAhead s old.world) {x = record { place = mark.from; next = mark.from; ahead = []; is_whole = false; is_over = false; found = None }} (sym is) record { front = sym (no_bytes (bytes_after mark.from old.world)); whole = λ whole. absurd cc };
      takes = λ t. takes_none mark old.world scan c.args.rebuilt.now (ap (λ (s : Scanned). s.next) is) (ap (λ (s : Scanned). s.is_over) is) c.requires.shape c.requires.none;
    }

pub frames-preserved : goal.frames-preserved
frames-preserved g c =
    let old = g.H.Device.history c.args.host.now in
    let before = g.H.Device.history c.frames.host in
    let now = g.H.Device.history c.take_next.new.host in
    let v = c.frames.invariant in
    let mark = c.args.mark.now in
    let later = c.take_next.new.scan in
    let same = λ (t : g.H.Device.tells). does old before now c.take_next.result before.world (IsSame old.world) (v.same t) (c.take_next.ensures.does t) (v.world t) (v.world t) in
    let not_it : later.place ≡ mark.begin → ⊥ = λ is. place_differs c.place-at.result mark.begin c.eq.result c.eq.ensures c.if-eq.false (c.place-at.ensures ∙ is) in
    record {
      state = record {
        later = omega (arith, v.state.later, c.take_next.ensures.cause.later);
        access = c.take_next.ensures.cause.access ∙ v.state.access;
        usable = λ usable. c.take_next.ensures.cause.usable (v.state.usable usable);
      };
      shape = c.in_ok-step.ensures.shape ∙ v.shape;
      bound = c.in_ok-step.ensures.bound;
      same = same;
      world = λ t. at_last old now (IsSame old.world) (g.H.Device.sound c.take_next.new.host t) (same t);
      ahead = λ t. c.in_ok-step.ensures.ahead t;
      takes = λ t.
          let takes = subst (λ w. TakesNext w c.frames.scan later c.frames.rebuilt c.take_next.new.rebuilt before.world) c.in-Frame.is (c.in_ok-step.ensures.takes t) in
          let prefix = subst (λ w. TakesPrefix mark w c.frames.scan c.frames.rebuilt c.frames.refused) (sym (v.world t)) (v.takes t) in
          let more = takes_more mark before.world c.frames.scan later c.frames.rebuilt c.take_next.new.rebuilt c.frames.refused prefix c.in-Frame.taken takes not_it in
          let there = subst (λ at. TakesPrefix mark before.world later c.take_next.new.rebuilt (refused_after c.in-Frame.taken c.frames.refused at)) (sym c.place-at.ensures) more in
          subst (λ w. TakesPrefix mark w later c.take_next.new.rebuilt c.refused_after-refused.result) (v.world t)
          (subst (λ o. TakesPrefix mark before.world later c.take_next.new.rebuilt o) (sym c.refused_after-refused.ensures) there);
    }

pub returns-then-eq-clause-reads : goal.returns-then-eq-clause-reads
returns-then-eq-clause-reads g c t =
    let old = g.H.Device.history c.args.host.now in
    let before = g.H.Device.history c.frames.host in
    let mid = g.H.Device.history c.take_next.new.host in
    let v = c.frames.invariant in
    let mark = c.args.mark.now in
    let later = c.take_next.new.scan in
    let at = place_same c.place-at.result mark.begin c.eq.result c.eq.ensures c.if-eq.true in
    let prefix = subst (λ w. TakesPrefix mark w c.frames.scan c.frames.rebuilt c.frames.refused) (sym (v.world t)) (v.takes t) in
    let same : mid.world ≡ before.world = (c.in_ok-step.ensures.does t).ok in
    let reads = subst (λ w. IsBeginRead c.in_ok-step.step mark w c.in_ok-holds.holds) same (c.in_ok-holds.ensures.holds t) in
    let done = takes_begin mark before.world c.frames.scan later c.frames.rebuilt c.take_next.new.rebuilt c.frames.refused prefix c.in_ok-step.step c.in_ok-holds.holds (c.in_ok-step.ensures.takes t)
    (sym c.place-at.ensures ∙ at) reads in
    let named = subst (λ p. RebuildsOr (bad_at_begin c.in_ok-holds.holds c.frames.refused p) mark (contents before.world.log) c.take_next.new.rebuilt) (sym at) done in
    subst (λ w. RebuildsOr c.bad_at_begin.result mark (contents w.log) c.take_next.new.rebuilt) (v.world t)
    (subst (λ o. RebuildsOr o mark (contents before.world.log) c.take_next.new.rebuilt) (sym c.bad_at_begin.ensures) named)

pub returns-in-Bad-clause-reads : goal.returns-in-Bad-clause-reads
returns-in-Bad-clause-reads g c t =
    let before = g.H.Device.history c.frames.host in
    let v = c.frames.invariant in
    let mark = c.args.mark.now in
    let later = c.take_next.new.scan in
    let not_it : later.place ≡ mark.begin → ⊥ = λ is. place_differs c.place-at.result mark.begin c.eq.result c.eq.ensures c.if-eq.false (c.place-at.ensures ∙ is) in
    let takes = subst (λ w. TakesNext w c.frames.scan later c.frames.rebuilt c.take_next.new.rebuilt before.world) c.in-Bad.is (c.in_ok-step.ensures.takes t) in
    let prefix = subst (λ w. TakesPrefix mark w c.frames.scan c.frames.rebuilt c.frames.refused) (sym (v.world t)) (v.takes t) in
    let done = takes_bad mark before.world c.frames.scan later c.frames.rebuilt c.take_next.new.rebuilt c.frames.refused prefix takes not_it in
    let named : first_bad c.frames.refused later.place ≡ c.first_bad.result = ap (first_bad c.frames.refused) (sym c.place-at.ensures) ∙ sym c.first_bad.ensures in
    subst (λ w. CanNotRebuild mark (contents w.log) c.first_bad.result) (v.world t) (subst (CanNotRebuild mark (contents before.world.log)) named done)

pub returns-in-End-clause-reads : goal.returns-in-End-clause-reads
returns-in-End-clause-reads g c t =
    let before = g.H.Device.history c.frames.host in
    let v = c.frames.invariant in
    let mark = c.args.mark.now in
    let later = c.take_next.new.scan in
    let not_it : later.place ≡ mark.begin → ⊥ = λ is. place_differs c.place-at.result mark.begin c.eq.result c.eq.ensures c.if-eq.false (c.place-at.ensures ∙ is) in
    let takes = subst (λ w. TakesNext w c.frames.scan later c.frames.rebuilt c.take_next.new.rebuilt before.world) c.in-End.is (c.in_ok-step.ensures.takes t) in
    let prefix = subst (λ w. TakesPrefix mark w c.frames.scan c.frames.rebuilt c.frames.refused) (sym (v.world t)) (v.takes t) in
    let done = takes_all mark before.world c.frames.scan later c.frames.rebuilt c.take_next.new.rebuilt c.frames.refused prefix takes not_it in
    subst (λ w. CanNotRebuild mark (contents w.log) c.first_bad-in-End.result) (v.world t) (subst (CanNotRebuild mark (contents before.world.log)) (sym c.first_bad-in-End.ensures) done)
