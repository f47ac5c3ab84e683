use Rattle.std.proofs.Common.{◌≡◌, ◌+◌, ◌++◌, List, ℕ, [], Ok, Err, length, refl, sym, ap, ◌∙◌, subst, arith}
use Rattle.std.specs.Prelude.{IfErr, IfOk}
use Rattle.pm_types.specs.declared.fault.StoreFault.TheVariants.{BadPage, Failed}
use Rattle.pm_types.specs.declared.limits.TheConstants.{LINES_MAX}
use Rattle.pm_disk.proofs.Chain.{at_last}
use Rattle.pm_script.specs.Reading.{rest_of, Unread}
use Rattle.pm_core.specs.Calls.{ChangesDisk}
use Rattle.pm_model.specs.declared.line.Line.{Line}
use Rattle.pm_engine.specs.Batches.{StaysOpen}
use Rattle.pm_engine.specs.Engines.{map_in}
use Rattle.pm_engine.specs.FrameStores.{pages_in_frames}
use Rattle.pm_engine.proofs.MetPages.{kept_same}
use Rattle.pm_engine.specs.RunningLines.{says_nothing}
use Rattle.pm_script.proofs.LaterStates.{same_state}
use Rattle.pm_top.specs.declared.batch.Continuation.TheVariants as then_comes
use Rattle.pm_top.specs.declared.run.Run.{Run}
use Rattle.pm_top.specs.Runs.{BatchIsAnswered, CountsBatch, GoesOn, IsOpenAfter, MeetsOnScript, StopsAtFault, TakesFor}
use Rattle.pm_top.specs.Limits.{after_lines}
use Rattle.pm_top.specs.Served.{script_of}
use Rattle.pm_top.proofs.AnsweredBatch.{goes_then, idle_goes, idle_none}
use Rattle.pm_top.proofs.AnsweredLines.{err_same, no_numbers, takes_both}
use Rattle.pm_top.proofs.FrameRests.{same_both, same_engine, serving_still}
use Rattle.pm_top.proofs.KeptConfigs.{config_disk, config_none, config_then}
use Rattle.pm_top.proofs.LaterStates.{frame_later}
use Rattle.pm_top.proofs.Serving.{more_place, more_bytes, more_limit, more_goes, end_none, end_goes, end_limit, over_stopped, none_said, numbers, force_stops, force_goes, force_leaves, served_fault, served_limit, served_done, served_unbegun, begins_here, may_next, append_right}
use Rattle.pm_top.proofs.MetLines.{done_later, kept_later, met_later}
use Rattle.pm_top.proofs.run.Run.serve.Goals as goal

-- ---- memory ran out before the first batch

pub returns-in_default-clause-served : goal.returns-in_default-clause-served
returns-in_default-clause-served g c t wanted last number start same can =
    let old = g.H.Device.history c.args.host.now in
    served_unbegun wanted last number start old c.args.self (g.H.Device.sound c.args.host.now t) same c.requires.lines c.requires.order can

pub returns-in_default-clause-config : goal.returns-in_default-clause-config
returns-in_default-clause-config g c t =
    config_none (g.H.Device.history c.args.host.now) (g.H.Device.sound c.args.host.now t)

pub returns-in_default-with_room-clause-served : goal.returns-in_default-with_room-clause-served
returns-in_default-with_room-clause-served g c t wanted last number start same can =
    let old = g.H.Device.history c.args.host.now in
    served_unbegun wanted last number start old c.args.self (g.H.Device.sound c.args.host.now t) same c.requires.lines c.requires.order can

pub returns-in_default-with_room-clause-config : goal.returns-in_default-with_room-clause-config
returns-in_default-with_room-clause-config g c t =
    config_none (g.H.Device.history c.args.host.now) (g.H.Device.sound c.args.host.now t)

-- ---- batch after batch

pub batches-init : goal.batches-init
batches-init g c =
    let old = g.H.Device.history c.args.host.now in
    let first = c.args.self in
    record {
      counted = c.requires.lines ∙ sym (ap (λ (u : Unread). u.lines) c.in-Ok.ensures);
      few = omega (arith, ap (λ (u : Unread). u.lines) c.in-Ok.ensures);
      state = same_state _;
      keeps = same_engine first.engine;
      is_open = c.requires.serving.is_open;
      numbers = no_numbers first.engine first.lines c.requires.lines;
      limit = λ t. omega (arith, ap (λ (u : Unread). u.bytes) c.in-Ok.ensures);
      input_end = λ t ended. absurd (let both = sym ended ∙ ap (λ (u : Unread). u.is_ended) c.in-Ok.ensures in cc);
      ready = λ t. c.requires.ready t;
      config = λ t. config_none old (g.H.Device.sound c.args.host.now t);
      bytes = λ t. subst (λ (u : Unread). u.bytes + length (rest_of u old.world) ≡ length old.world.input) (sym c.in-Ok.ensures) (omega arith);
      place = λ t. subst (λ (u : Unread). rest_of u old.world ≡ after_lines u.lines old.world.input) (sym c.in-Ok.ensures) refl;
      goes = λ t wanted last number can.
          subst (λ (u : Unread). GoesOn {T = Unit {0}} wanted last number old old (script_of old.world.input) (script_of (rest_of u old.world)) first first (Ok tt)) (sym c.in-Ok.ensures)
          (idle_goes wanted last number (LINES_MAX + 2048) old old first (script_of old.world.input) can (g.H.Device.sound c.args.host.now t) (idle_none old (g.H.Device.sound c.args.host.now t)));
      first_done = λ t. subst (λ (u : Unread). (done : List Line) × (script_of old.world.input ≡ done ++ script_of (rest_of u old.world))) (sym c.in-Ok.ensures) ([], refl);
      pages = λ t may_change allows. kept_same may_change (pages_in_frames first.engine.store old.world);
    }

pub answer_batch-next-requires-clause-serving : goal.answer_batch-next-requires-clause-serving
answer_batch-next-requires-clause-serving g c _ _ =
    serving_still c.args.config.now c.args.self.engine c.batches.run.engine c.requires.serving c.batches.invariant.keeps c.batches.invariant.is_open

pub batches-preserved : goal.batches-preserved
batches-preserved g c =
    let old = g.H.Device.history c.args.host.now in
    let before = g.H.Device.history c.batches.host in
    let batch = c.answer_batch-next in
    let new = g.H.Device.history batch.new.host in
    let first = c.args.self in
    let now = batch.result.0 in
    let so_far = c.batches.invariant in
    let result = c.in-Ok-More.is ∙ ap Ok (rw c.in-Ok-More.is at c.in-Ok-More.field-0-is) in
    let counts : CountsBatch then_comes.More batch.new.input c.batches.run now = subst (λ r. IfOk r (λ continuation. CountsBatch continuation batch.new.input c.batches.run now)) result batch.ensures.counted in
    let open_after : (t : g.H.Device.tells) → IsOpenAfter before new now.engine batch.new.input (Ok then_comes.More) = λ t. subst (λ r. IsOpenAfter before new now.engine batch.new.input r) result (batch.ensures.open t) in
    let answered : (t : g.H.Device.tells) → BatchIsAnswered then_comes.More c.batches.input batch.new.input (rest_of c.batches.input before.world) (rest_of batch.new.input new.world) before new c.batches.run now = λ t.
    subst (λ r. IfOk r (λ continuation. BatchIsAnswered continuation c.batches.input batch.new.input (rest_of c.batches.input before.world) (rest_of batch.new.input new.world) before new c.batches.run now)) result (batch.ensures.answered t) in
    let met : (t : g.H.Device.tells) → MeetsOnScript (script_of (rest_of c.batches.input before.world)) (script_of (rest_of batch.new.input new.world)) before.world new.world c.batches.run now (Ok then_comes.More) = λ t.
    subst (λ r. MeetsOnScript (script_of (rest_of c.batches.input before.world)) (script_of (rest_of batch.new.input new.world)) before.world new.world c.batches.run now r) result (batch.ensures.meets t) in
    record {
      counted = counts.same refl;
      few = omega (arith, counts.same refl, counts.few);
      state = frame_later _ _ _ batch.result.1 so_far.state batch.ensures.cause;
      keeps = same_both first.engine c.batches.run.engine now.engine so_far.keeps batch.ensures.keeps;
      is_open = counts.is_open;
      numbers = subst (λ (n : ℕ). TakesFor n first.engine now.engine) (sym counts.lines)
          (takes_both c.batches.run.lines counts.more first.engine c.batches.run.engine now.engine so_far.numbers counts.numbers);
      limit = λ t. more_limit then_comes.More (answered t) old.world.input refl (so_far.limit t);
      input_end = λ t. (open_after t).input_end;
      ready = λ t. (open_after t).ready;
      config = λ t. config_then old before new (g.H.Device.sound c.batches.host t) (so_far.config t) (open_after t).config;
      bytes = λ t. more_bytes then_comes.More (answered t) old.world.input refl (so_far.bytes t);
      place = λ t. more_place then_comes.More (answered t) old.world.input refl so_far.counted (counts.same refl) (so_far.place t);
      goes = λ t wanted last number can.
          let goes = so_far.goes t wanted last number can in
          let may = may_next wanted last number old before (script_of old.world.input) (script_of (rest_of c.batches.input before.world)) first c.batches.run can goes (omega (arith, so_far.counted, so_far.few)) so_far.numbers in
          goes_then wanted last number old before new (script_of old.world.input) (script_of (rest_of c.batches.input before.world)) (script_of (rest_of batch.new.input new.world)) first c.batches.run now (Ok tt) goes
          (more_goes then_comes.More (answered t) old.world.input refl wanted last number may);
      first_done = λ t.
          let done = so_far.first_done t in
          let its = met t in
          let rest = script_of (rest_of c.batches.input before.world) in
          let left = script_of (rest_of batch.new.input new.world) in
          done_later first.engine.store.shape c.batches.run.engine.store.shape so_far.keeps.shape (script_of old.world.input) done.0 rest done.1 its.lines left
          (its.taken ∙ ap (λ (ls : List Line). its.lines ++ ls) (its.left_are (λ is. absurd (let both : then_comes.More ≡ then_comes.Over = is in cc))));
      pages = λ t.
          let done = so_far.first_done t in
          let its = met t in
          let rest = script_of (rest_of c.batches.input before.world) in
          kept_later first.engine.store.shape c.batches.run.engine.store.shape so_far.keeps.shape (script_of old.world.input) done.0 rest done.1
          (pages_in_frames first.engine.store old.world) (pages_in_frames c.batches.run.engine.store before.world) (pages_in_frames now.engine.store new.world) its.lines its.others its.taken (so_far.pages t) its.keeps;
    }

-- ---- a fault came in a batch

pub returns-in-Err-clause-served : goal.returns-in-Err-clause-served
returns-in-Err-clause-served g c t wanted last number start same can =
    let old = g.H.Device.history c.args.host.now in
    let before = g.H.Device.history c.batches.host in
    let batch = c.answer_batch-next in
    let new = g.H.Device.history batch.new.host in
    let first = c.args.self in
    let now = batch.result.0 in
    let so_far = c.batches.invariant in
    let script = script_of old.world.input in
    let rest = script_of (rest_of c.batches.input before.world) in
    let goes = so_far.goes t wanted last number can in
    let may = may_next wanted last number old before script rest first c.batches.run can goes (omega (arith, so_far.counted, so_far.few)) so_far.numbers in
    let stops : StopsAtFault before new rest c.batches.run now c.in-Err.fault = subst (λ r. IfErr r (StopsAtFault before new rest c.batches.run now)) c.in-Err.is (batch.ensures.stops t) in
    served_fault wanted last number start first.engine.store.shape (map_in first.engine old.world) old new script first now (begins_here start old.world first same c.requires.lines c.requires.order) [] c.in-Err.fault
    (goes_then wanted last number old before new script rest [] first c.batches.run now (Err c.in-Err.fault) goes (stops wanted last number may))

pub returns-in-Err-clause-meets : goal.returns-in-Err-clause-meets
returns-in-Err-clause-meets g c t page bad =
    let old = g.H.Device.history c.args.host.now in
    let before = g.H.Device.history c.batches.host in
    let batch = c.answer_batch-next in
    let first = c.args.self in
    let so_far = c.batches.invariant in
    let done = so_far.first_done t in
    let rest = script_of (rest_of c.batches.input before.world) in
    let named : batch.result.1 ≡ Err (BadPage page) = c.in-Err.is ∙ ap Err (err_same c.in-Err.fault (BadPage page) _ refl bad) in
    met_later first.engine.store.shape c.batches.run.engine.store.shape so_far.keeps.shape (script_of old.world.input) done.0 rest done.1
    (pages_in_frames first.engine.store old.world) (pages_in_frames c.batches.run.engine.store before.world) (so_far.pages t) page ((batch.ensures.meets t).meets page named)

pub returns-in-Err-clause-config : goal.returns-in-Err-clause-config
returns-in-Err-clause-config g c t =
    let old = g.H.Device.history c.args.host.now in
    let before = g.H.Device.history c.batches.host in
    let new = g.H.Device.history c.answer_batch-next.new.host in
    config_then old before new (g.H.Device.sound c.batches.host t) (c.batches.invariant.config t) (c.answer_batch-next.ensures.open t).config

-- ---- a limit

pub returns-in-Ok-Over-clause-served : goal.returns-in-Ok-Over-clause-served
returns-in-Ok-Over-clause-served g c t wanted last number start same can =
    let old = g.H.Device.history c.args.host.now in
    let before = g.H.Device.history c.batches.host in
    let batch = c.answer_batch-next in
    let new = g.H.Device.history batch.new.host in
    let first = c.args.self in
    let now = batch.result.0 in
    let so_far = c.batches.invariant in
    let script = script_of old.world.input in
    let rest = script_of (rest_of c.batches.input before.world) in
    let goes = so_far.goes t wanted last number can in
    let may = may_next wanted last number old before script rest first c.batches.run can goes (omega (arith, so_far.counted, so_far.few)) so_far.numbers in
    let result = c.in-Ok-Over.is ∙ ap Ok (rw c.in-Ok-Over.is at c.in-Ok-Over.field-0-is) in
    let counts : CountsBatch then_comes.Over batch.new.input c.batches.run now = subst (λ r. IfOk r (λ continuation. CountsBatch continuation batch.new.input c.batches.run now)) result batch.ensures.counted in
    let answered : BatchIsAnswered then_comes.Over c.batches.input batch.new.input (rest_of c.batches.input before.world) (rest_of batch.new.input new.world) before new c.batches.run now =
    subst (λ r. IfOk r (λ continuation. BatchIsAnswered continuation c.batches.input batch.new.input (rest_of c.batches.input before.world) (rest_of batch.new.input new.world) before new c.batches.run now)) result (batch.ensures.answered t) in
    let shape = first.engine.store.shape in
    let pairs = map_in first.engine old.world in
    served_limit wanted last number start shape pairs old new script first now (begins_here start old.world first same c.requires.lines c.requires.order) (script_of answered.left)
    (goes_then wanted last number old before new script rest (script_of answered.left) first c.batches.run now (Ok tt) goes (answered.goes wanted last number may))
    (λ reached. over_stopped then_comes.Over answered old.world.input refl so_far.counted (so_far.place t) (so_far.bytes t) (so_far.limit t) counts.few start shape pairs (sym same.input) reached)

pub returns-in-Ok-Over-clause-config : goal.returns-in-Ok-Over-clause-config
returns-in-Ok-Over-clause-config g c t =
    let old = g.H.Device.history c.args.host.now in
    let before = g.H.Device.history c.batches.host in
    let new = g.H.Device.history c.answer_batch-next.new.host in
    config_then old before new (g.H.Device.sound c.batches.host t) (c.batches.invariant.config t) (c.answer_batch-next.ensures.open t).config

-- ---- the script's end

pub returns-in-Ok-ended-clause-served : goal.returns-in-Ok-ended-clause-served
returns-in-Ok-ended-clause-served g c t wanted last number start same can =
    let old = g.H.Device.history c.args.host.now in
    let before = g.H.Device.history c.batches.host in
    let batch = c.answer_batch-next in
    let mid = g.H.Device.history batch.new.host in
    let new = g.H.Device.history c.end_run-ended.new.host in
    let first = c.args.self in
    let run = batch.result.0 in
    let later : Run = record run { engine = c.end_run-ended.new.self } in
    let so_far = c.batches.invariant in
    let script = script_of old.world.input in
    let rest = script_of (rest_of c.batches.input before.world) in
    let goes = so_far.goes t wanted last number can in
    let may = may_next wanted last number old before script rest first c.batches.run can goes (omega (arith, so_far.counted, so_far.few)) so_far.numbers in
    let result = c.in-Ok-End.is ∙ ap Ok (rw c.in-Ok-End.is at c.in-Ok-End.field-0-is) in
    let counts : CountsBatch then_comes.End batch.new.input c.batches.run run = subst (λ r. IfOk r (λ continuation. CountsBatch continuation batch.new.input c.batches.run run)) result batch.ensures.counted in
    let answered : BatchIsAnswered then_comes.End c.batches.input batch.new.input (rest_of c.batches.input before.world) (rest_of batch.new.input mid.world) before mid c.batches.run run =
    subst (λ r. IfOk r (λ continuation. BatchIsAnswered continuation c.batches.input batch.new.input (rest_of c.batches.input before.world) (rest_of batch.new.input mid.world) before mid c.batches.run run)) result (batch.ensures.answered t) in
    let reached = goes_then wanted last number old before mid script rest [] first c.batches.run run (Ok tt) goes (end_goes then_comes.End answered old.world.input refl wanted last number may) in
    let takes : TakesFor run.lines first.engine run.engine = subst (λ (n : ℕ). TakesFor n first.engine run.engine) (sym counts.lines) (takes_both c.batches.run.lines counts.more first.engine c.batches.run.engine run.engine so_far.numbers counts.numbers) in
    let room = may_next wanted last number old mid script [] first run can reached counts.few takes in
    let map_mid = map_in run.engine mid.world in
    let ok = c.in-Ok-ended.ensures in
    let stays : StaysOpen c.end_run-ended.result = subst StaysOpen (sym c.in-Ok-ended.is) tt in
    let runs = c.end_run-ended.ensures.runs 1 none_said in
    let disk = runs.disk t in
    let sound = g.H.Device.sound c.end_run-ended.new.host t in
    let lasts = ok.rests t wanted says_nothing room.stands.from map_mid [] room.stands.has (numbers wanted last number 2048 mid new run later [] room sound refl disk (omega arith) t runs c.end_run-ended.ensures.order) in
    let shape = first.engine.store.shape in
    let pairs = map_in first.engine old.world in
    let only = at_last mid new (ChangesDisk mid.world) sound disk in
    let none = end_none then_comes.End answered old.world.input refl in
    served_done wanted last number start shape pairs old new script first later (begins_here start old.world first same c.requires.lines c.requires.order) []
    (goes_then wanted last number old mid new script [] [] first run later (Ok tt) reached (force_goes wanted last number 2048 mid new run later [] room sound refl disk (omega arith) t runs c.end_run-ended.ensures.order stays (c.end_run-ended.ensures.numbers stays) ok.still lasts))
    refl (only.input ∙ append_right batch.new.input.pending mid.world.input none)
    (omega (arith, end_limit then_comes.End answered old.world.input refl (so_far.limit t) (so_far.bytes t), ap (λ (l : List ℕ). length l) same.input)) counts.few
    (λ at_end. force_leaves wanted last number 2048 mid new run later [] room sound refl disk (omega arith) t runs c.end_run-ended.ensures.order stays (c.end_run-ended.ensures.numbers stays) ok.still lasts refl start shape pairs at_end)

pub returns-in-Err-ended-clause-served : goal.returns-in-Err-ended-clause-served
returns-in-Err-ended-clause-served g c t wanted last number start same can =
    let old = g.H.Device.history c.args.host.now in
    let before = g.H.Device.history c.batches.host in
    let batch = c.answer_batch-next in
    let mid = g.H.Device.history batch.new.host in
    let new = g.H.Device.history c.end_run-ended.new.host in
    let first = c.args.self in
    let run = batch.result.0 in
    let later : Run = record run { engine = c.end_run-ended.new.self } in
    let so_far = c.batches.invariant in
    let script = script_of old.world.input in
    let rest = script_of (rest_of c.batches.input before.world) in
    let goes = so_far.goes t wanted last number can in
    let may = may_next wanted last number old before script rest first c.batches.run can goes (omega (arith, so_far.counted, so_far.few)) so_far.numbers in
    let result = c.in-Ok-End.is ∙ ap Ok (rw c.in-Ok-End.is at c.in-Ok-End.field-0-is) in
    let counts : CountsBatch then_comes.End batch.new.input c.batches.run run = subst (λ r. IfOk r (λ continuation. CountsBatch continuation batch.new.input c.batches.run run)) result batch.ensures.counted in
    let answered : BatchIsAnswered then_comes.End c.batches.input batch.new.input (rest_of c.batches.input before.world) (rest_of batch.new.input mid.world) before mid c.batches.run run =
    subst (λ r. IfOk r (λ continuation. BatchIsAnswered continuation c.batches.input batch.new.input (rest_of c.batches.input before.world) (rest_of batch.new.input mid.world) before mid c.batches.run run)) result (batch.ensures.answered t) in
    let reached = goes_then wanted last number old before mid script rest [] first c.batches.run run (Ok tt) goes (end_goes then_comes.End answered old.world.input refl wanted last number may) in
    let takes : TakesFor run.lines first.engine run.engine = subst (λ (n : ℕ). TakesFor n first.engine run.engine) (sym counts.lines) (takes_both c.batches.run.lines counts.more first.engine c.batches.run.engine run.engine so_far.numbers counts.numbers) in
    let room = may_next wanted last number old mid script [] first run can reached counts.few takes in
    let runs = c.end_run-ended.ensures.runs 1 none_said in
    let stops = force_stops wanted last number 2048 mid new run later [] room (g.H.Device.sound c.end_run-ended.new.host t) refl (runs.disk t) (omega arith) t runs c.end_run-ended.ensures.order in
    served_fault wanted last number start first.engine.store.shape (map_in first.engine old.world) old new script first later (begins_here start old.world first same c.requires.lines c.requires.order) [] Failed
    (goes_then wanted last number old mid new script [] [] first run later (Err Failed) reached stops)

pub returns-in-Ok-ended-clause-config : goal.returns-in-Ok-ended-clause-config
returns-in-Ok-ended-clause-config g c t =
    let old = g.H.Device.history c.args.host.now in
    let before = g.H.Device.history c.batches.host in
    let mid = g.H.Device.history c.answer_batch-next.new.host in
    let new = g.H.Device.history c.end_run-ended.new.host in
    let so_far = config_then old before mid (g.H.Device.sound c.batches.host t) (c.batches.invariant.config t) (c.answer_batch-next.ensures.open t).config in
    config_then old mid new (g.H.Device.sound c.answer_batch-next.new.host t) so_far (config_disk mid new ((c.end_run-ended.ensures.runs 1 none_said).disk t))

pub returns-in-Err-ended-clause-config : goal.returns-in-Err-ended-clause-config
returns-in-Err-ended-clause-config g c t =
    let old = g.H.Device.history c.args.host.now in
    let before = g.H.Device.history c.batches.host in
    let mid = g.H.Device.history c.answer_batch-next.new.host in
    let new = g.H.Device.history c.end_run-ended.new.host in
    let so_far = config_then old before mid (g.H.Device.sound c.batches.host t) (c.batches.invariant.config t) (c.answer_batch-next.ensures.open t).config in
    config_then old mid new (g.H.Device.sound c.answer_batch-next.new.host t) so_far (config_disk mid new ((c.end_run-ended.ensures.runs 1 none_said).disk t))
