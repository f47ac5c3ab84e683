use Rattle.std.proofs.Common.{◌++◌, ◌∙◌, inl, [], false, None, refl, ap, sym, subst, arith}
use Rattle.std.proofs.lemmas.List.{append-nil}
use Rattle.std.proofs.lemmas.Result.{on_ok_weaker}
use Rattle.pm_disk.proofs.Chain.{started, does, joined, weaker, at_last}
use Rattle.pm_segments.specs.Scans.{Scanned, IsAhead}
use Rattle.pm_tools.specs.Lines.{end_line, line_of}
use Rattle.pm_tools.specs.declared.listing.Next.TheVariants as next
use Rattle.pm_tools.specs.Listings.{SaysOfLog, SaysPrefix, ReadsNext, ReadsFrame, HasListed, IsSaid, IsListedUpTo}
use Rattle.pm_tools.proofs.Listed.{nothing_yet, lists_none, grows_by, still_listed, says_lines, up_to, lists_all, said_after, prefix_of}
use Rattle.pm_tools.proofs.listing.list_from.Goals as goal

pub returns-in_err-scan-clause-moments : goal.returns-in_err-scan-clause-moments
returns-in_err-scan-clause-moments g c t =
    let old = g.H.Device.history c.args.host.now in
    started old (SaysOfLog c.args.from old.world) (g.H.Device.sound c.args.host.now t) (nothing_yet c.args.from old.world)

pub frames-init : goal.frames-init
frames-init g c =
    let old = g.H.Device.history c.args.host.now in
    let scan = c.in_ok-scan.scan in
    let is = c.in_ok-scan.ensures in
    let from = c.args.from in
    record {
      state = record { later = omega arith; access = refl; usable = λ usable. usable };
      bound = omega (arith, ap (λ (s : Scanned). s.next.off) is, c.requires.within);
      moments = λ t. started old (SaysOfLog from old.world) (g.H.Device.sound c.args.host.now t) (nothing_yet from old.world);
      ahead = λ t. subst (λ (s : Scanned). IsAhead s old.world) {x = record { place = from; next = from; ahead = []; is_whole = false; is_over = false; found = None }} (sym is) record { front = refl; whole = λ whole. absurd cc };
      listed = λ t. subst (HasListed from old.world old.world scan) (sym c.new-lines.ensures.items) (lists_none from old.world scan (ap (λ (s : Scanned). s.next) is) (ap (λ (s : Scanned). s.is_over) is));
    }

pub returns-in_err-next-clause-moments : goal.returns-in_err-next-clause-moments
returns-in_err-next-clause-moments g c t =
    let old = g.H.Device.history c.args.host.now in
    let before = g.H.Device.history c.frames.host in
    let P = SaysOfLog c.args.from old.world in
    let so_far = c.frames.invariant.moments t in
    let here = at_last old before P (g.H.Device.sound c.frames.host t) so_far in
    does old before (g.H.Device.history c.read_next.new.host) c.read_next.result before.world P so_far (c.read_next.ensures.does t) here here

pub frames-preserved : goal.frames-preserved
frames-preserved g c =
    let old = g.H.Device.history c.args.host.now in
    let before = g.H.Device.history c.frames.host in
    let mid = g.H.Device.history c.read_next.new.host in
    let now = g.H.Device.history c.add_line.new.host in
    let v = c.frames.invariant in
    let from = c.args.from in
    let scan = c.frames.scan in
    let later = c.read_next.new.scan in
    let lines = c.frames.lines.items in
    let text = c.deref.result.now in
    let line = line_of c.place-at.result text in
    let P = SaysOfLog from old.world in
    let same = λ (t : g.H.Device.tells). (c.in_ok-next.ensures.does t).ok in
    let reads = λ (t : g.H.Device.tells).
    subst (λ x. ReadsFrame next.Record x scan later before.world) (sym c.deref.ensures.value)
    (subst (λ n. ReadsNext n c.read_next.new.text.items scan later before.world) c.in-Record.is (c.in_ok-next.ensures.reads t)) in
    let grows = λ (t : g.H.Device.tells). grows_by from old.world before.world scan later lines text c.place-at.result (v.listed t) (reads t) c.place-at.ensures in
    let was = λ (t : g.H.Device.tells). same t ∙ (v.listed t).now_is in
    let adds = λ (t : g.H.Device.tells). c.in_ok-add_line-in-Record.ensures.adds t in
    record {
      state = record {
        later = omega (arith, v.state.later, c.read_next.ensures.cause.later, c.add_line.ensures.cause.later);
        access = c.add_line.ensures.cause.access ∙ c.read_next.ensures.cause.access ∙ v.state.access;
        usable = λ usable. c.add_line.ensures.cause.usable (c.read_next.ensures.cause.usable (v.state.usable usable));
      };
      bound = c.in_ok-next.ensures.bound;
      moments = λ t.
          let so_far = v.moments t in
          let here = at_last old before P (g.H.Device.sound c.frames.host t) so_far in
          let first = does old before mid c.read_next.result before.world P so_far (c.read_next.ensures.does t) here here in
          joined old mid now P first (weaker mid now (SaysPrefix (lines ++ line) mid.world) P
          (λ w part. says_lines from old.world mid.world w (grows t).frames (v.listed t).said (lines ++ line) (grows t).scanned.run (grows t).are_records (was t) (grows t).whole part)
          (c.add_line.ensures.moments t));
      ahead = λ t. subst (IsAhead later) (sym (adds t).now_is) (let before_it : IsAhead later mid.world = c.in_ok-next.ensures.ahead t in record { front = before_it.front; whole = before_it.whole });
      listed = λ t. still_listed from old.world mid.world now.world scan later (v.listed t).said lines line c.add_line.new.lines.items (grows t) (was t) (adds t);
    }

pub returns-in_err-add_line-in-Record-clause-moments : goal.returns-in_err-add_line-in-Record-clause-moments
returns-in_err-add_line-in-Record-clause-moments g c t =
    let old = g.H.Device.history c.args.host.now in
    let before = g.H.Device.history c.frames.host in
    let mid = g.H.Device.history c.read_next.new.host in
    let v = c.frames.invariant in
    let from = c.args.from in
    let scan = c.frames.scan in
    let later = c.read_next.new.scan in
    let lines = c.frames.lines.items in
    let text = c.deref.result.now in
    let line = line_of c.place-at.result text in
    let P = SaysOfLog from old.world in
    let reads =
    subst (λ x. ReadsFrame next.Record x scan later before.world) (sym c.deref.ensures.value)
    (subst (λ n. ReadsNext n c.read_next.new.text.items scan later before.world) c.in-Record.is (c.in_ok-next.ensures.reads t)) in
    let grows = grows_by from old.world before.world scan later lines text c.place-at.result (v.listed t) reads c.place-at.ensures in
    let so_far = v.moments t in
    let here = at_last old before P (g.H.Device.sound c.frames.host t) so_far in
    let first = does old before mid c.read_next.result before.world P so_far (c.read_next.ensures.does t) here here in
    joined old mid (g.H.Device.history c.add_line.new.host) P first (weaker mid (g.H.Device.history c.add_line.new.host) (SaysPrefix (lines ++ line) mid.world) P
    (λ w part. says_lines from old.world mid.world w grows.frames (v.listed t).said (lines ++ line) grows.scanned.run grows.are_records ((c.in_ok-next.ensures.does t).ok ∙ (v.listed t).now_is) grows.whole part)
    (c.add_line.ensures.moments t))

pub returns-in-Bad-clause-bad : goal.returns-in-Bad-clause-bad
returns-in-Bad-clause-bad g c t at is =
    let old = g.H.Device.history c.args.host.now in
    let before = g.H.Device.history c.frames.host in
    let mid = g.H.Device.history c.read_next.new.host in
    let now = g.H.Device.history c.refuse.new.host in
    let v = c.frames.invariant in
    let from = c.args.from in
    let lines = c.frames.lines.items in
    let listed = v.listed t in
    let reads = subst (λ n. ReadsNext n c.read_next.new.text.items c.frames.scan c.read_next.new.scan before.world) c.in-Bad.is (c.in_ok-next.ensures.reads t) in
    let lists = up_to from old.world before.world c.frames.scan c.read_next.new.scan lines c.read_next.new.text.items c.place-at.result listed reads c.place-at.ensures in
    let said = c.refuse.ensures.bad t at is in
    let whole : IsSaid lines mid.world now.world = subst (λ l. IsSaid l mid.world now.world) c.deref-in-Bad.ensures.value said.1 in
    subst (λ p. IsListedUpTo from p old.world now.world) (sym said.0)
    (record { text = listed.said ++ lines; lists = lists; said = said_after old.world mid.world now.world listed.said lines ((c.in_ok-next.ensures.does t).ok ∙ listed.now_is) whole })

pub returns-in-Bad-clause-moments : goal.returns-in-Bad-clause-moments
returns-in-Bad-clause-moments g c t =
    let old = g.H.Device.history c.args.host.now in
    let before = g.H.Device.history c.frames.host in
    let mid = g.H.Device.history c.read_next.new.host in
    let now = g.H.Device.history c.refuse.new.host in
    let v = c.frames.invariant in
    let from = c.args.from in
    let lines = c.frames.lines.items in
    let listed = v.listed t in
    let P = SaysOfLog from old.world in
    let so_far = v.moments t in
    let here = at_last old before P (g.H.Device.sound c.frames.host t) so_far in
    let first = does old before mid c.read_next.result before.world P so_far (c.read_next.ensures.does t) here here in
    joined old mid now P first (weaker mid now (SaysPrefix c.deref-in-Bad.result.now mid.world) P
    (λ w part. says_lines from old.world mid.world w listed.frames listed.said lines listed.scanned.run listed.are_records ((c.in_ok-next.ensures.does t).ok ∙ listed.now_is) listed.whole
    (subst (λ l. SaysPrefix l mid.world w) c.deref-in-Bad.ensures.value part))
    (c.refuse.ensures.moments t))

pub returns-in-End-clause-listed : goal.returns-in-End-clause-listed
returns-in-End-clause-listed g c t =
    let old = g.H.Device.history c.args.host.now in
    let before = g.H.Device.history c.frames.host in
    let mid = g.H.Device.history c.read_next.new.host in
    let now = g.H.Device.history c.finish.new.host in
    let v = c.frames.invariant in
    let from = c.args.from in
    let lines = c.frames.lines.items in
    let listed = v.listed t in
    let reads = subst (λ n. ReadsNext n c.read_next.new.text.items c.frames.scan c.read_next.new.scan before.world) c.in-End.is (c.in_ok-next.ensures.reads t) in
    let lists = lists_all from old.world before.world c.frames.scan c.read_next.new.scan lines c.place-at.result listed reads.0 reads.1 c.place-at.ensures in
    let was = (c.in_ok-next.ensures.does t).ok ∙ listed.now_is in
    let tail = lines ++ end_line c.place-at.result in
    on_ok_weaker c.finish.result (λ said. record { text = listed.said ++ tail; lists = lists; said = said_after old.world mid.world now.world listed.said tail was said }) (c.finish.ensures.said t)

pub returns-in-End-clause-moments : goal.returns-in-End-clause-moments
returns-in-End-clause-moments g c t =
    let old = g.H.Device.history c.args.host.now in
    let before = g.H.Device.history c.frames.host in
    let mid = g.H.Device.history c.read_next.new.host in
    let now = g.H.Device.history c.finish.new.host in
    let v = c.frames.invariant in
    let from = c.args.from in
    let lines = c.frames.lines.items in
    let listed = v.listed t in
    let P = SaysOfLog from old.world in
    let so_far = v.moments t in
    let here = at_last old before P (g.H.Device.sound c.frames.host t) so_far in
    let first = does old before mid c.read_next.result before.world P so_far (c.read_next.ensures.does t) here here in
    let reads = subst (λ n. ReadsNext n c.read_next.new.text.items c.frames.scan c.read_next.new.scan before.world) c.in-End.is (c.in_ok-next.ensures.reads t) in
    let lists = lists_all from old.world before.world c.frames.scan c.read_next.new.scan lines c.place-at.result listed reads.0 reads.1 c.place-at.ensures in
    let was = (c.in_ok-next.ensures.does t).ok ∙ listed.now_is in
    let tail = lines ++ end_line c.place-at.result in
    joined old mid now P first (weaker mid now (SaysPrefix tail mid.world) P
    (λ w part. prefix_of from old.world mid.world w (listed.said ++ tail) listed.said tail [] (inl lists) (sym (append-nil (listed.said ++ tail))) was part)
    (c.finish.ensures.moments t))
