use Rattle.std.proofs.Common.{◌∙◌, [], false, None, refl, ap, sym, subst, arith}
use Rattle.pm_disk.proofs.Chain.{started, does}
use Rattle.pm_disk.specs.Worlds.{World}
use Rattle.pm_records.specs.LogFiles.{contents}
use Rattle.pm_redo.specs.Rebuilding.{IsSame}
use Rattle.pm_segments.specs.Scans.{Scanned, IsAhead}
use Rattle.pm_tools.specs.declared.listing.Next.TheVariants as next
use Rattle.pm_tools.specs.Verifying.{CountsChanges, CountsNext, CountsFrame, IsBadFrame}
use Rattle.pm_tools.proofs.Verified.{reads_none, reads_more, bad_there, all_read, same_place}
use Rattle.pm_tools.proofs.verifying.count_from.Goals as goal

pub frames-init : goal.frames-init
frames-init g c =
    let old = g.H.Device.history c.args.host.now in
    let scan = c.in_ok-scan.scan in
    let is = c.in_ok-scan.ensures in
    let from = c.args.from in
    record {
      state = record { later = omega arith; access = refl; usable = λ usable. usable };
      bound = omega (arith, ap (λ (s : Scanned). s.next.off) is, c.requires.within);
      same = λ t. started old (IsSame old.world) (g.H.Device.sound c.args.host.now t) refl;
      world = λ t. refl;
      ahead = λ t. subst (λ (s : Scanned). IsAhead s old.world) {x = record { place = from; next = from; ahead = []; is_whole = false; is_over = false; found = None }} (sym is) record { front = refl; whole = λ whole. absurd cc };
      read = λ t. reads_none (contents old.world.log) from scan (ap (λ (s : Scanned). s.next) is) (ap (λ (s : Scanned). s.is_over) is);
    }

pub frames-preserved : goal.frames-preserved
frames-preserved g c =
    let old = g.H.Device.history c.args.host.now in
    let before = g.H.Device.history c.frames.host in
    let mid = g.H.Device.history c.read_next.new.host in
    let v = c.frames.invariant in
    let scan = c.frames.scan in
    let later = c.read_next.new.scan in
    let same = λ (t : g.H.Device.tells). does old before mid c.read_next.result before.world (IsSame old.world) (v.same t) (c.read_next.ensures.does t) (v.world t) (v.world t) in
    record {
      state = record {
        later = omega (arith, v.state.later, c.read_next.ensures.cause.later);
        access = c.read_next.ensures.cause.access ∙ v.state.access;
        usable = λ usable. c.read_next.ensures.cause.usable (v.state.usable usable);
      };
      bound = c.in_ok-next.ensures.bound;
      same = same;
      world = λ t. (c.in_ok-next.ensures.does t).ok ∙ v.world t;
      ahead = λ t. c.in_ok-next.ensures.ahead t;
      read = λ t.
          let counts = subst (λ n. CountsNext n c.frames.count c.read_next.new.count scan later before.world) c.in-Record.is (c.in_ok-next.ensures.counts t) in
          let here = subst (λ (w : World). CountsFrame next.Record c.frames.count c.read_next.new.count scan later w) (v.world t) counts in
          reads_more old.world c.args.from scan later c.frames.count c.read_next.new.count here.frame (v.read t) here.stands here.advances here.says.0 here.says.1;
    }

pub returns-in-Bad-clause-bad : goal.returns-in-Bad-clause-bad
returns-in-Bad-clause-bad g c t at is =
    let old = g.H.Device.history c.args.host.now in
    let before = g.H.Device.history c.frames.host in
    let v = c.frames.invariant in
    let scan = c.frames.scan in
    let later = c.read_next.new.scan in
    let counts = subst (λ n. CountsNext n c.frames.count c.read_next.new.count scan later before.world) c.in-Bad.is (c.in_ok-next.ensures.counts t) in
    let here = subst (λ (w : World). CountsFrame next.Bad c.frames.count c.read_next.new.count scan later w) (v.world t) counts in
    subst (λ p. IsBadFrame (contents old.world.log) c.args.from p) (same_place c.place-at.result at is)
    (bad_there old.world c.args.from scan later c.frames.count here.frame c.place-at.result (v.read t) here.stands here.advances here.says.0 c.place-at.ensures)

pub returns-in-End-clause-counts : goal.returns-in-End-clause-counts
returns-in-End-clause-counts g c t =
    let old = g.H.Device.history c.args.host.now in
    let before = g.H.Device.history c.frames.host in
    let v = c.frames.invariant in
    let scan = c.frames.scan in
    let later = c.read_next.new.scan in
    let counts = subst (λ n. CountsNext n c.frames.count c.read_next.new.count scan later before.world) c.in-End.is (c.in_ok-next.ensures.counts t) in
    let here = subst (λ (w : World). CountsNext next.End c.frames.count c.read_next.new.count scan later w) (v.world t) counts in
    subst (λ n. CountsChanges (contents old.world.log) c.args.from n) (sym here.2)
    (all_read old.world c.args.from scan later c.frames.count (v.read t) here.0 here.1)
