use Rattle.std.proofs.Common.{◌<◌, ◌^◌, ◌∙◌, ◌++◌, ◌∷◌, [], inl, inr, false, None, refl, ap, sym, subst, arith}
use Rattle.pm_disk.proofs.Chain.{started, does, at_last}
use Rattle.pm_types.specs.declared.place.Place.{Place}
use Rattle.pm_records.specs.LogFiles.{contents}
use Rattle.pm_segments.specs.Read.{HasScanned}
use Rattle.pm_segments.specs.Scans.{Scanned, IsAhead, bytes_after}
use Rattle.pm_segments.proofs.Reading.{scan_starts, scan_goes, scan_ends}
use Rattle.pm_redo.specs.LogEnds.{PassesNext, PassesFurther, LogEndsAt}
use Rattle.pm_redo.specs.Rebuilding.{IsSame}
use Rattle.pm_redo.proofs.RangeReads.{no_bytes}
use Rattle.pm_redo.proofs.log_end.log_end.Goals as goal

pub frames-init : goal.frames-init
frames-init g c =
    let old = g.H.Device.history c.args.host.now in
    let scan = c.in_ok-scan.scan in
    let is = c.in_ok-scan.ensures in
    let from = c.args.from in
    record {
      state = record { later = omega arith; access = refl; usable = λ usable. usable };
      bound = omega (arith, ap (λ (s : Scanned). s.next.off) is, c.requires.within);
      later = omega (arith, ap (λ (s : Scanned). s.next.seg) is);
      same = λ t. started old (IsSame old.world) (g.H.Device.sound c.args.host.now t) refl;
      world = λ t. refl;
      ahead = λ t. subst (λ (s : Scanned). IsAhead s old.world) {x = record { place = from; next = from; ahead = []; is_whole = false; is_over = false; found = None }} (sym is) record { front = sym (no_bytes (bytes_after from old.world)); whole = λ whole. absurd cc };
      reads = λ t. ([], scan_starts (contents old.world.log) from scan (ap (λ (s : Scanned). s.next) is) (ap (λ (s : Scanned). s.is_over) is));
    }

pub frames-preserved : goal.frames-preserved
frames-preserved g c =
    let old = g.H.Device.history c.args.host.now in
    let before = g.H.Device.history c.frames.host in
    let now = g.H.Device.history c.pass_next.new.host in
    let v = c.frames.invariant in
    let scan = c.frames.scan in
    let later = c.pass_next.new.scan in
    let same = λ (t : g.H.Device.tells). does old before now c.pass_next.result before.world (IsSame old.world) (v.same t) (c.pass_next.ensures.does t) (v.world t) (v.world t) in
    let further = subst (λ b. PassesFurther b scan later) c.if-not-passed.false c.in_ok-passed.ensures.further in
    record {
      state = record {
        later = omega (arith, v.state.later, c.pass_next.ensures.cause.later);
        access = c.pass_next.ensures.cause.access ∙ v.state.access;
        usable = λ usable. c.pass_next.ensures.cause.usable (v.state.usable usable);
      };
      bound = c.in_ok-passed.ensures.bound;
      later = elim further.1 [ inl up ↦ omega (arith, up, v.later) | inr on ↦ omega (arith, on.0, v.later) ];
      same = same;
      world = λ t. at_last old now (IsSame old.world) (g.H.Device.sound c.pass_next.new.host t) (same t);
      ahead = λ t. c.in_ok-passed.ensures.ahead t;
      reads = λ t.
          let passes = subst (λ b. PassesNext b scan later before.world) c.if-not-passed.false (c.in_ok-passed.ensures.passes t) in
          let was = v.reads t in
          let scanned = subst (λ w. HasScanned (contents w.log) c.args.from was.0 scan) (sym (v.world t)) was.1 in
          let more = scan_goes before.world c.args.from was.0 scan later passes.0 scanned passes.1 passes.2 in
          (was.0 ++ passes.0 ∷ [], subst (λ w. HasScanned (contents w.log) c.args.from (was.0 ++ passes.0 ∷ []) later) (v.world t) more);
    }

pub frames-smaller : goal.frames-smaller
frames-smaller g c =
    let further = subst (λ b. PassesFurther b c.frames.scan c.pass_next.new.scan) c.if-not-passed.false c.in_ok-passed.ensures.further in
    let there : c.frames.scan.next.seg < 2 ^ 64 = omega (arith, c.segment_of-segment.type_inv, c.segment_of-segment.ensures, ap (λ (p : Place). p.seg) (c.place-at.ensures ∙ further.0)) in
    elim further.1 [
      | inl up ↦ omega (arith, up, there, c.in_ok-passed.ensures.bound, c.frames.invariant.bound)
      | inr on ↦ omega (arith, on.0, on.1, there, c.in_ok-passed.ensures.bound, c.frames.invariant.bound)
    ]

pub returns-in_err-passed-clause-same : goal.returns-in_err-passed-clause-same
returns-in_err-passed-clause-same g c t =
    let old = g.H.Device.history c.args.host.now in
    let before = g.H.Device.history c.frames.host in
    let v = c.frames.invariant in
    does old before (g.H.Device.history c.pass_next.new.host) c.pass_next.result before.world (IsSame old.world) (v.same t) (c.pass_next.ensures.does t) (v.world t) (v.world t)

pub returns-then-not-passed-clause-same : goal.returns-then-not-passed-clause-same
returns-then-not-passed-clause-same g c t =
    let old = g.H.Device.history c.args.host.now in
    let before = g.H.Device.history c.frames.host in
    let v = c.frames.invariant in
    does old before (g.H.Device.history c.pass_next.new.host) c.pass_next.result before.world (IsSame old.world) (v.same t) (c.pass_next.ensures.does t) (v.world t) (v.world t)

pub returns-then-not-passed-clause-ends : goal.returns-then-not-passed-clause-ends
returns-then-not-passed-clause-ends g c t =
    let before = g.H.Device.history c.frames.host in
    let v = c.frames.invariant in
    let scan = c.frames.scan in
    let later = c.pass_next.new.scan in
    let passes = subst (λ b. PassesNext b scan later before.world) c.if-not-passed.true (c.in_ok-passed.ensures.passes t) in
    let was = v.reads t in
    let scanned = subst (λ w. HasScanned (contents w.log) c.args.from was.0 scan) (sym (v.world t)) was.1 in
    let ends = scan_ends before.world c.args.from was.0 scan later scanned passes.0 passes.1 in
    subst (λ w. LogEndsAt (contents w.log) c.args.from c.place-at.result) (v.world t)
    (record { frames = was.0; is_log = ends.0; ends = c.place-at.ensures ∙ ends.1 })

pub returns-then-not-passed-clause-bound : goal.returns-then-not-passed-clause-bound
returns-then-not-passed-clause-bound g c =
    let further = subst (λ b. PassesFurther b c.frames.scan c.pass_next.new.scan) c.if-not-passed.true c.in_ok-passed.ensures.further in
    omega (arith, c.frames.invariant.bound, ap (λ (p : Place). p.off) (c.place-at.ensures ∙ further))

pub returns-then-not-passed-clause-later : goal.returns-then-not-passed-clause-later
returns-then-not-passed-clause-later g c =
    let further = subst (λ b. PassesFurther b c.frames.scan c.pass_next.new.scan) c.if-not-passed.true c.in_ok-passed.ensures.further in
    omega (arith, c.frames.invariant.later, ap (λ (p : Place). p.seg) (c.place-at.ensures ∙ further))
