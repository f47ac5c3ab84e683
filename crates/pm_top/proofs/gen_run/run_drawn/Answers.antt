use Rattle.std.proofs.Common.{◌≡◌, ◌+◌, ◌-◌, ◌≤◌, ◌++◌, List, ℕ, Bool, [], length, take, Ok, Err, refl, sym, ap, ◌∙◌, subst, arith}
use Rattle.std.specs.Prelude.{Result, OnOk}
use Rattle.std.specs.List.{All}
use Rattle.std.proofs.lemmas.List.{length-take}
use Rattle.pm_types.specs.declared.fault.StoreFault.{StoreFault}
use Rattle.pm_types.specs.declared.fault.StoreFault.TheVariants.{BadPage}
use Rattle.pm_types.specs.declared.limits.TheConstants.{LINES_MAX}
use Rattle.pm_model.specs.declared.line.Line.{Line}
use Rattle.pm_model.specs.Eval.{replies_to}
use Rattle.pm_engine.specs.Engines.{map_in}
use Rattle.pm_engine.specs.FrameStores.{pages_in_frames}
use Rattle.pm_engine.specs.MetPages.{AllowsLine, KeepsPagesBut}
use Rattle.pm_engine.specs.Batches.{StaysOpen}
use Rattle.pm_engine.specs.RunningLines.{says_nothing}
use Rattle.pm_engine.proofs.MetPages.{kept_same}
use Rattle.pm_tools.specs.DrawnLines.{drawn_lines}
use Rattle.pm_top.specs.declared.counting.ReplyCounts.{ReplyCounts}
use Rattle.pm_top.specs.DrawnSteps.{HasRunDrawn}
use Rattle.pm_top.specs.ReplyCounts.{counted_in, counts_of, with_all}
use Rattle.pm_top.specs.Runs.{StaysWithin, TakesFor}
use Rattle.pm_top.proofs.AnsweredLines.{batch_takes, err_same, no_numbers, takes_both}
use Rattle.pm_top.proofs.CountedReplies.{counted_at_most}
use Rattle.pm_top.proofs.DrawnRunning.{drawn_begins, drawn_counts, drawn_sound, forced_numbers, forced_ran, forced_tries, forced_within, goes_on_drawn, no_reply, room_drawn, stops_drawn, tries_drawn}
use Rattle.pm_top.proofs.DrawnScripts.{DrawnFirst, drawn_are, drawn_more, drawn_none, length-drawn_lines}
use Rattle.pm_top.proofs.LaterStates.{frame_later}
use Rattle.pm_top.proofs.MetLines.{kept_more, met_more}
use Rattle.pm_top.proofs.gen_run.run_drawn.Goals as goal

pub returns-in_default-clause-tries : goal.returns-in_default-clause-tries
returns-in_default-clause-tries g c =
    let tells = g.H.Device.tells in
    let old = g.H.Device.history c.args.host.now in
    let first = c.args.engine in
    let seed = c.args.seed in
    let count = c.args.count in
    let script = drawn_lines seed 1 count in
    stops_drawn (drawn_begins tells old first (λ t. g.H.Device.sound c.args.host.now t) c.requires.order) script script refl

pub batches-init : goal.batches-init
batches-init g c =
    let tells = g.H.Device.tells in
    let old = g.H.Device.history c.args.host.now in
    let first = c.args.engine in
    let seed = c.args.seed in
    let count = c.args.count in
    let script = drawn_lines seed 1 count in
    record {
      within = omega arith;
      drawn = subst (λ (x : ℕ). DrawnFirst seed 1 0 [] x) (sym c.new-drawing.ensures) (drawn_none seed 1);
      state = record { later = omega arith; access = refl; usable = λ usable. usable };
      serving = c.requires.serving;
      ready = c.requires.ready;
      numbers = no_numbers first 0 refl;
      few = omega (arith, ap counted_in c.none-counts.ensures);
      counts = λ t wanted last number can. c.none-counts.ensures;
      ran = drawn_begins tells old first (λ t. g.H.Device.sound c.args.host.now t) c.requires.order;
      pages = λ t may_change allows. kept_same may_change (pages_in_frames first.store old.world);
    }

pub returns-in_default-next_lines-clause-tries : goal.returns-in_default-next_lines-clause-tries
returns-in_default-next_lines-clause-tries g c =
    let tells = g.H.Device.tells in
    let old = g.H.Device.history c.args.host.now in
    let first = c.args.engine in
    let seed = c.args.seed in
    let count = c.args.count in
    let script = drawn_lines seed 1 count in
    let so_far = c.batches.invariant in
    let many = c.batches.many in
    let engine = c.batches.engine in
    let drawing = c.batches.drawing in
    let mid = g.H.Device.history c.batches.host in
    let sound = λ (t : tells). g.H.Device.sound c.batches.host t in
    let done = drawn_lines seed 1 many in
    let done_len : length done ≡ many = length-drawn_lines seed 1 many in
    let parts : count ≡ many + (count - many) = omega (arith, so_far.within) in
    stops_drawn so_far.ran script (drawn_lines drawing (1 + many) (count - many)) (ap (drawn_lines seed 1) parts ∙ so_far.drawn (count - many))

pub returns-in-Err-clause-tries : goal.returns-in-Err-clause-tries
returns-in-Err-clause-tries g c =
    let tells = g.H.Device.tells in
    let old = g.H.Device.history c.args.host.now in
    let first = c.args.engine in
    let seed = c.args.seed in
    let count = c.args.count in
    let script = drawn_lines seed 1 count in
    let so_far = c.batches.invariant in
    let many = c.batches.many in
    let engine = c.batches.engine in
    let drawing = c.batches.drawing in
    let mid = g.H.Device.history c.batches.host in
    let sound = λ (t : tells). g.H.Device.sound c.batches.host t in
    let done = drawn_lines seed 1 many in
    let done_len : length done ≡ many = length-drawn_lines seed 1 many in
    let ran = c.batch-next in
    let later = ran.result.0 in
    let new = g.H.Device.history ran.new.host in
    let more = c.deref.result.now in
    let drawn = c.in-Ok-next_lines.ensures in
    let same_lines : c.in-Ok-next_lines.lines.items ≡ more = sym c.deref.ensures.value in
    let k = length more in
    let k_is : length c.in-Ok-next_lines.lines.items ≡ k = ap (λ (l : List Line). length l) same_lines in
    let next : DrawnFirst drawing (1 + many) k more c.next_lines.new.drawing =
    subst (λ (x : ℕ × List Line). DrawnFirst drawing x.0 (length x.1) x.1 c.next_lines.new.drawing) (λ i. ((let e : many + 1 ≡ 1 + many = omega arith in e) i, same_lines i)) drawn.drawn in
    let some : 1 ≤ k = omega (arith, k_is, drawn.some) in
    let few : k ≤ 1024 = omega (arith, k_is, drawn.few) in
    let within : many + k ≤ count = omega (arith, so_far.within, k_is, drawn.inside) in
    let room = λ (t : tells) (last number : ℕ) (stays : StaysWithin last number (LINES_MAX + 2048) first).
    room_drawn last number many k first engine (omega (arith, within, c.requires.few)) stays so_far.numbers in
    let counts : many + 1 ≡ 1 + length done = omega (arith, done_len) in
    let tries = ran.ensures.runs in
    let rest = drawn_lines c.next_lines.new.drawing (1 + many + k) (count - many - k) in
    let parts : count ≡ many + (k + (count - many - k)) = omega (arith, within) in
    tries_drawn so_far.ran tries counts sound some room script rest
    (ap (drawn_lines seed 1) parts ∙ so_far.drawn (k + (count - many - k)) ∙ ap (λ ls. done ++ ls) (next (count - many - k))) few

pub returns-in-Err-clause-sound : goal.returns-in-Err-clause-sound
returns-in-Err-clause-sound g c page bad =
    let tells = g.H.Device.tells in
    let old = g.H.Device.history c.args.host.now in
    let first = c.args.engine in
    let seed = c.args.seed in
    let count = c.args.count in
    let script = drawn_lines seed 1 count in
    let so_far = c.batches.invariant in
    let many = c.batches.many in
    let engine = c.batches.engine in
    let drawing = c.batches.drawing in
    let mid = g.H.Device.history c.batches.host in
    let sound = λ (t : tells). g.H.Device.sound c.batches.host t in
    let done = drawn_lines seed 1 many in
    let done_len : length done ≡ many = length-drawn_lines seed 1 many in
    let ran = c.batch-next in
    let later = ran.result.0 in
    let new = g.H.Device.history ran.new.host in
    let more = c.deref.result.now in
    let drawn = c.in-Ok-next_lines.ensures in
    let same_lines : c.in-Ok-next_lines.lines.items ≡ more = sym c.deref.ensures.value in
    let k = length more in
    let k_is : length c.in-Ok-next_lines.lines.items ≡ k = ap (λ (l : List Line). length l) same_lines in
    let next : DrawnFirst drawing (1 + many) k more c.next_lines.new.drawing =
    subst (λ (x : ℕ × List Line). DrawnFirst drawing x.0 (length x.1) x.1 c.next_lines.new.drawing) (λ i. ((let e : many + 1 ≡ 1 + many = omega arith in e) i, same_lines i)) drawn.drawn in
    let some : 1 ≤ k = omega (arith, k_is, drawn.some) in
    let few : k ≤ 1024 = omega (arith, k_is, drawn.few) in
    let within : many + k ≤ count = omega (arith, so_far.within, k_is, drawn.inside) in
    let room = λ (t : tells) (last number : ℕ) (stays : StaysWithin last number (LINES_MAX + 2048) first).
    room_drawn last number many k first engine (omega (arith, within, c.requires.few)) stays so_far.numbers in
    let counts : many + 1 ≡ 1 + length done = omega (arith, done_len) in
    let tries = ran.ensures.runs in
    drawn_sound so_far.ran tries counts sound some room page (c.in-Err.is ∙ ap Err (err_same c.in-Err.fault (BadPage page) _ refl bad))

pub returns-in-Err-clause-meets : goal.returns-in-Err-clause-meets
returns-in-Err-clause-meets g c t page bad =
    let tells = g.H.Device.tells in
    let old = g.H.Device.history c.args.host.now in
    let first = c.args.engine in
    let seed = c.args.seed in
    let count = c.args.count in
    let script = drawn_lines seed 1 count in
    let so_far = c.batches.invariant in
    let many = c.batches.many in
    let engine = c.batches.engine in
    let drawing = c.batches.drawing in
    let mid = g.H.Device.history c.batches.host in
    let done = drawn_lines seed 1 many in
    let ran = c.batch-next in
    let later = ran.result.0 in
    let new = g.H.Device.history ran.new.host in
    let more = c.deref.result.now in
    let drawn = c.in-Ok-next_lines.ensures in
    let same_lines : c.in-Ok-next_lines.lines.items ≡ more = sym c.deref.ensures.value in
    let k = length more in
    let k_is : length c.in-Ok-next_lines.lines.items ≡ k = ap (λ (l : List Line). length l) same_lines in
    let next : DrawnFirst drawing (1 + many) k more c.next_lines.new.drawing =
    subst (λ (x : ℕ × List Line). DrawnFirst drawing x.0 (length x.1) x.1 c.next_lines.new.drawing) (λ i. ((let e : many + 1 ≡ 1 + many = omega arith in e) i, same_lines i)) drawn.drawn in
    let within : many + k ≤ count = omega (arith, so_far.within, k_is, drawn.inside) in
    let rest = drawn_lines c.next_lines.new.drawing (1 + many + k) (count - many - k) in
    let parts : count ≡ many + (k + (count - many - k)) = omega (arith, within) in
    met_more tells t first.store.shape engine.store.shape so_far.ran.same.shape done more (pages_in_frames first.store old.world) (pages_in_frames engine.store mid.world) (pages_in_frames later.store new.world) ran.result.1
    (so_far.pages t) (ran.ensures.runs.meets t) script rest (ap (drawn_lines seed 1) parts ∙ so_far.drawn (k + (count - many - k)) ∙ ap (λ ls. done ++ ls) (next (count - many - k)))
    page (c.in-Err.is ∙ ap Err (err_same c.in-Err.fault (BadPage page) _ refl bad))

pub add_first-requires : goal.add_first-requires
add_first-requires g c =
    let tells = g.H.Device.tells in
    let old = g.H.Device.history c.args.host.now in
    let first = c.args.engine in
    let seed = c.args.seed in
    let count = c.args.count in
    let script = drawn_lines seed 1 count in
    let so_far = c.batches.invariant in
    let many = c.batches.many in
    let engine = c.batches.engine in
    let drawing = c.batches.drawing in
    let mid = g.H.Device.history c.batches.host in
    let sound = λ (t : tells). g.H.Device.sound c.batches.host t in
    let done = drawn_lines seed 1 many in
    let done_len : length done ≡ many = length-drawn_lines seed 1 many in
    let ran = c.batch-next in
    let later = ran.result.0 in
    let new = g.H.Device.history ran.new.host in
    let more = c.deref.result.now in
    let drawn = c.in-Ok-next_lines.ensures in
    let same_lines : c.in-Ok-next_lines.lines.items ≡ more = sym c.deref.ensures.value in
    let k = length more in
    let k_is : length c.in-Ok-next_lines.lines.items ≡ k = ap (λ (l : List Line). length l) same_lines in
    let next : DrawnFirst drawing (1 + many) k more c.next_lines.new.drawing =
    subst (λ (x : ℕ × List Line). DrawnFirst drawing x.0 (length x.1) x.1 c.next_lines.new.drawing) (λ i. ((let e : many + 1 ≡ 1 + many = omega arith in e) i, same_lines i)) drawn.drawn in
    let some : 1 ≤ k = omega (arith, k_is, drawn.some) in
    let few : k ≤ 1024 = omega (arith, k_is, drawn.few) in
    let within : many + k ≤ count = omega (arith, so_far.within, k_is, drawn.inside) in
    let room = λ (t : tells) (last number : ℕ) (stays : StaysWithin last number (LINES_MAX + 2048) first).
    room_drawn last number many k first engine (omega (arith, within, c.requires.few)) stays so_far.numbers in
    let counts : many + 1 ≡ 1 + length done = omega (arith, done_len) in
    let tries = ran.ensures.runs in
    omega (arith, so_far.few, within, k_is, c.requires.few)

pub batches-preserved : goal.batches-preserved
batches-preserved g c =
    let tells = g.H.Device.tells in
    let old = g.H.Device.history c.args.host.now in
    let first = c.args.engine in
    let seed = c.args.seed in
    let count = c.args.count in
    let script = drawn_lines seed 1 count in
    let so_far = c.batches.invariant in
    let many = c.batches.many in
    let engine = c.batches.engine in
    let drawing = c.batches.drawing in
    let mid = g.H.Device.history c.batches.host in
    let sound = λ (t : tells). g.H.Device.sound c.batches.host t in
    let done = drawn_lines seed 1 many in
    let done_len : length done ≡ many = length-drawn_lines seed 1 many in
    let ran = c.batch-next in
    let later = ran.result.0 in
    let new = g.H.Device.history ran.new.host in
    let more = c.deref.result.now in
    let drawn = c.in-Ok-next_lines.ensures in
    let same_lines : c.in-Ok-next_lines.lines.items ≡ more = sym c.deref.ensures.value in
    let k = length more in
    let k_is : length c.in-Ok-next_lines.lines.items ≡ k = ap (λ (l : List Line). length l) same_lines in
    let next : DrawnFirst drawing (1 + many) k more c.next_lines.new.drawing =
    subst (λ (x : ℕ × List Line). DrawnFirst drawing x.0 (length x.1) x.1 c.next_lines.new.drawing) (λ i. ((let e : many + 1 ≡ 1 + many = omega arith in e) i, same_lines i)) drawn.drawn in
    let some : 1 ≤ k = omega (arith, k_is, drawn.some) in
    let few : k ≤ 1024 = omega (arith, k_is, drawn.few) in
    let within : many + k ≤ count = omega (arith, so_far.within, k_is, drawn.inside) in
    let room = λ (t : tells) (last number : ℕ) (stays : StaysWithin last number (LINES_MAX + 2048) first).
    room_drawn last number many k first engine (omega (arith, within, c.requires.few)) stays so_far.numbers in
    let counts : many + 1 ≡ 1 + length done = omega (arith, done_len) in
    let tries = ran.ensures.runs in
    let ok : ran.result.1 ≡ Ok tt = c.in-Ok-ran.is in
    let all : tries.tried ≡ k = subst (λ (r : Result (Unit {0}) StoreFault). OnOk r (tries.tried ≡ k)) ok tries.all in
    let stays : StaysOpen ran.result.1 = subst StaysOpen (sym ok) tt in
    let next_is : c.len-done.result ≡ k = omega (arith, c.len-done.ensures, c.deref.ensures.len) in
    let sum : many + k ≡ many + c.len-done.result = omega (arith, next_is) in
    let its_lines : TakesFor k engine later = batch_takes k engine later some (ran.ensures.numbers stays) in
    let front : DrawnFirst seed 1 (many + k) (done ++ more) c.next_lines.new.drawing = drawn_more seed 1 many k done more drawing c.next_lines.new.drawing so_far.drawn next in
    let lines_are : done ++ more ≡ drawn_lines seed 1 (many + k) = sym (drawn_are seed 1 (many + k) (done ++ more) c.next_lines.new.drawing front) in
    let ran_all : HasRunDrawn tells old new first later (drawn_lines seed 1 (many + k)) =
    subst (HasRunDrawn tells old new first later) lines_are (goes_on_drawn so_far.ran tries counts sound some room all stays) in
    record {
      within = omega (arith, next_is, within);
      drawn = subst (λ (n : ℕ). DrawnFirst seed 1 n (drawn_lines seed 1 n) c.next_lines.new.drawing) sum (subst (λ ls. DrawnFirst seed 1 (many + k) ls c.next_lines.new.drawing) lines_are front);
      state = frame_later _ _ _ ran.result.1 so_far.state ran.ensures.cause;
      serving = record { is_open = tries.is_open stays; frames = so_far.serving.frames ∙ sym (ap (λ l. length l.ranges) tries.same.locks) };
      ready = λ t. record { ends = tries.ends t stays; clean = tries.clean t stays };
      numbers = subst (λ (n : ℕ). TakesFor n first later) sum (takes_both many k first engine later so_far.numbers its_lines);
      few = omega (arith, ap counted_in c.add_first.ensures, counted_at_most c.batches.counts (take c.len-done.result ran.new.replies.replies), length-take c.len-done.result ran.new.replies.replies, so_far.few, next_is);
      counts = λ t wanted last number can.
          c.add_first.ensures ∙ ap (λ (x : ReplyCounts × ℕ). with_all x.0 (take x.1 ran.new.replies.replies)) (λ i. (so_far.counts t wanted last number can i, next_is i))
          ∙ drawn_counts so_far.ran tries counts sound some room all stays drawn.none t wanted last number can
          ∙ ap (λ ls. counts_of (replies_to first.store.shape ls (map_in first old.world))) (lines_are ∙ ap (drawn_lines seed 1) sum);
      ran = subst (λ (n : ℕ). HasRunDrawn tells old new first later (drawn_lines seed 1 n)) sum ran_all;
      pages = λ t.
          subst (λ ls. (may_change : ℕ → Bool) → All (AllowsLine may_change first.store.shape) ls → KeepsPagesBut may_change (pages_in_frames first.store old.world) (pages_in_frames later.store new.world)) (lines_are ∙ ap (drawn_lines seed 1) sum)
          (kept_more tells t first.store.shape engine.store.shape so_far.ran.same.shape done more (pages_in_frames first.store old.world) (pages_in_frames engine.store mid.world) (pages_in_frames later.store new.world) ran.result.1
          (so_far.pages t) (tries.meets t) stays);
    }

pub returns-in-Err-end_run-clause-tries : goal.returns-in-Err-end_run-clause-tries
returns-in-Err-end_run-clause-tries g c =
    let tells = g.H.Device.tells in
    let old = g.H.Device.history c.args.host.now in
    let first = c.args.engine in
    let seed = c.args.seed in
    let count = c.args.count in
    let script = drawn_lines seed 1 count in
    let so_far = c.batches.invariant in
    let many = c.batches.many in
    let engine = c.batches.engine in
    let drawing = c.batches.drawing in
    let mid = g.H.Device.history c.batches.host in
    let sound = λ (t : tells). g.H.Device.sound c.batches.host t in
    let done = drawn_lines seed 1 many in
    let done_len : length done ≡ many = length-drawn_lines seed 1 many in
    let new = g.H.Device.history c.end_run.new.host in
    let all : count ≡ many = omega (arith, so_far.within, c.batches-test.false) in
    let is : script ≡ done = ap (drawn_lines seed 1) all in
    let few : length done ≤ LINES_MAX = omega (arith, done_len, so_far.within, c.requires.few) in
    let takes : TakesFor (length done) first engine = subst (λ (n : ℕ). TakesFor n first engine) (sym done_len) so_far.numbers in
    forced_tries so_far.ran sound few takes (c.end_run.ensures.runs 1 no_reply) c.end_run.ensures.order script is

pub returns-clause-tries : goal.returns-clause-tries
returns-clause-tries g c =
    let tells = g.H.Device.tells in
    let old = g.H.Device.history c.args.host.now in
    let first = c.args.engine in
    let seed = c.args.seed in
    let count = c.args.count in
    let script = drawn_lines seed 1 count in
    let so_far = c.batches.invariant in
    let many = c.batches.many in
    let engine = c.batches.engine in
    let drawing = c.batches.drawing in
    let mid = g.H.Device.history c.batches.host in
    let sound = λ (t : tells). g.H.Device.sound c.batches.host t in
    let done = drawn_lines seed 1 many in
    let done_len : length done ≡ many = length-drawn_lines seed 1 many in
    let new = g.H.Device.history c.end_run.new.host in
    let all : count ≡ many = omega (arith, so_far.within, c.batches-test.false) in
    let is : script ≡ done = ap (drawn_lines seed 1) all in
    let few : length done ≤ LINES_MAX = omega (arith, done_len, so_far.within, c.requires.few) in
    let takes : TakesFor (length done) first engine = subst (λ (n : ℕ). TakesFor n first engine) (sym done_len) so_far.numbers in
    forced_tries so_far.ran sound few takes (c.end_run.ensures.runs 1 no_reply) c.end_run.ensures.order script is

pub returns-clause-ends : goal.returns-clause-ends
returns-clause-ends g c =
    let tells = g.H.Device.tells in
    let old = g.H.Device.history c.args.host.now in
    let first = c.args.engine in
    let seed = c.args.seed in
    let count = c.args.count in
    let script = drawn_lines seed 1 count in
    let so_far = c.batches.invariant in
    let many = c.batches.many in
    let engine = c.batches.engine in
    let drawing = c.batches.drawing in
    let mid = g.H.Device.history c.batches.host in
    let sound = λ (t : tells). g.H.Device.sound c.batches.host t in
    let done = drawn_lines seed 1 many in
    let done_len : length done ≡ many = length-drawn_lines seed 1 many in
    let new = g.H.Device.history c.end_run.new.host in
    let all : count ≡ many = omega (arith, so_far.within, c.batches-test.false) in
    let is : script ≡ done = ap (drawn_lines seed 1) all in
    let few : length done ≤ LINES_MAX = omega (arith, done_len, so_far.within, c.requires.few) in
    let takes : TakesFor (length done) first engine = subst (λ (n : ℕ). TakesFor n first engine) (sym done_len) so_far.numbers in
    let later = c.end_run.new.self in
    let stays : StaysOpen c.end_run.result = subst StaysOpen (sym c.in-Ok-end_run.is) tt in
    let runs = c.end_run.ensures.runs 1 no_reply in
    let order = c.end_run.ensures.order in
    record {
      ran = subst (λ ls. HasRunDrawn tells old new first later ls) (sym is) (forced_ran so_far.ran sound few takes runs order stays);
      lasts = λ t wanted last number can.
          c.in-Ok-end_run.ensures.rests t wanted says_nothing can.stands.from (map_in first old.world) done (so_far.ran.runs t wanted last number can) (forced_numbers so_far.ran sound few takes runs order last number can.within);
      within = λ last number stays_within. forced_within so_far.ran sound few takes runs order (c.end_run.ensures.numbers stays) last number stays_within;
    }

pub returns-clause-counts : goal.returns-clause-counts
returns-clause-counts g c t wanted last number can =
    let tells = g.H.Device.tells in
    let old = g.H.Device.history c.args.host.now in
    let first = c.args.engine in
    let seed = c.args.seed in
    let count = c.args.count in
    let script = drawn_lines seed 1 count in
    let so_far = c.batches.invariant in
    let many = c.batches.many in
    let engine = c.batches.engine in
    let drawing = c.batches.drawing in
    let mid = g.H.Device.history c.batches.host in
    let sound = λ (t : tells). g.H.Device.sound c.batches.host t in
    let done = drawn_lines seed 1 many in
    let done_len : length done ≡ many = length-drawn_lines seed 1 many in
    let new = g.H.Device.history c.end_run.new.host in
    let all : count ≡ many = omega (arith, so_far.within, c.batches-test.false) in
    let is : script ≡ done = ap (drawn_lines seed 1) all in
    let few : length done ≤ LINES_MAX = omega (arith, done_len, so_far.within, c.requires.few) in
    let takes : TakesFor (length done) first engine = subst (λ (n : ℕ). TakesFor n first engine) (sym done_len) so_far.numbers in
    subst (λ ls. c.batches.counts ≡ counts_of (replies_to first.store.shape ls (map_in first old.world))) (sym is) (so_far.counts t wanted last number can)
