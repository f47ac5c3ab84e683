use Rattle.std.proofs.Common.{◌≡◌, ◌≤◌, ◌++◌, List, ℕ, [], Ok, Err, length, sym, ap, ◌∙◌, subst, arith, length-append}
use Rattle.std.specs.Prelude.{IfErr}
use Rattle.pm_types.specs.declared.fault.StoreFault.TheVariants.{BadPage}
use Rattle.pm_types.specs.declared.page_id.PageId.{PageId}
use Rattle.pm_disk.proofs.Chain.{at_last}
use Rattle.pm_script.specs.Reading.{rest_of, OnlyTakes}
use Rattle.pm_engine.specs.Batches.{IsPlainFault}
use Rattle.pm_top.specs.Runs.{AnswersLines, OnlyAnswers}
use Rattle.pm_top.specs.Scripts.{batch_lines, ContinuationIs}
use Rattle.pm_top.specs.Served.{script_of}
use Rattle.pm_top.proofs.AnsweredBatch.{answered_lines, idle_stops, idle_taken, stops_anywhere, taken_goes}
use Rattle.pm_top.proofs.FrameRests.{ready_beside, same_engine, same_taken}
use Rattle.pm_top.proofs.KeptConfigs.{config_answers, config_take, config_then}
use Rattle.pm_top.proofs.LaterStates.{plain_frame}
use Rattle.pm_top.proofs.MetLines.{left_script, pages_beside, script_goes, script_stops, script_unmet}
use Rattle.pm_top.proofs.run.Run.answer_batch.Goals as goal

-- ---- no line was taken

pub returns-in-Err-clause-keeps : goal.returns-in-Err-clause-keeps
returns-in-Err-clause-keeps g c =
    same_engine c.args.self.engine

pub returns-in-Err-clause-open : goal.returns-in-Err-clause-open
returns-in-Err-clause-open g c t =
    record { config = config_take (g.H.Device.history c.args.host.now) (g.H.Device.history c.next_batch.new.host) (c.next_batch.ensures.takes t); ready = tt; input_end = tt }

pub returns-in-Err-clause-stops : goal.returns-in-Err-clause-stops
returns-in-Err-clause-stops g c t wanted last number can =
    let old = g.H.Device.history c.args.host.now in
    let mid = g.H.Device.history c.next_batch.new.host in
    let fault = c.in-Err.fault in
    let plain : IsPlainFault fault = subst (λ r. IfErr r IsPlainFault) c.in-Err.is c.next_batch.ensures.cause.plain in
    idle_stops wanted last number 2048 old mid c.args.self (script_of (rest_of c.args.input.now old.world)) can (g.H.Device.sound c.next_batch.new.host t) (idle_taken old mid (c.next_batch.ensures.takes t)) [] fault
    (λ (id : PageId) (is : fault ≡ BadPage id). subst IsPlainFault is plain)

pub returns-in-Err-clause-cause : goal.returns-in-Err-clause-cause
returns-in-Err-clause-cause g c =
    let at = g.H.Device.state in
    plain_frame (at c.args.host.now) (at c.next_batch.new.host) (Err c.in-Err.fault) (let it = c.next_batch.ensures.cause in record { later = it.later; failed = λ is. it.failed (c.in-Err.is ∙ ap Err (let same = is in cc)); access = it.access; usable = it.usable; plain = subst (λ r. IfErr r IsPlainFault) c.in-Err.is it.plain })

pub returns-in-Err-clause-meets : goal.returns-in-Err-clause-meets
returns-in-Err-clause-meets g c t =
    let old = g.H.Device.history c.args.host.now in
    let mid = g.H.Device.history c.next_batch.new.host in
    script_unmet (script_of (rest_of c.args.input.now old.world)) (script_of (rest_of c.next_batch.new.input mid.world)) old.world mid.world c.args.self c.args.self c.in-Err.fault
    (subst (λ r. IfErr r IsPlainFault) c.in-Err.is c.next_batch.ensures.cause.plain)

-- ---- lines were taken

pub answer_taken-run-requires-clause-batch : goal.answer_taken-run-requires-clause-batch
answer_taken-run-requires-clause-batch g c _ _ =
    c.in-Ok.ensures.batch

pub answer_taken-run-requires-clause-numbers : goal.answer_taken-run-requires-clause-numbers
answer_taken-run-requires-clause-numbers g c _ _ =
    omega (arith, c.in-Ok.ensures.counts.few (omega (arith, c.requires.counted, c.requires.few)), c.requires.counted)

pub answer_taken-run-requires-clause-ready : goal.answer_taken-run-requires-clause-ready
answer_taken-run-requires-clause-ready g c _ _ t =
    let old = g.H.Device.history c.args.host.now in
    let mid = g.H.Device.history c.next_batch.new.host in
    let takes = at_last old mid (OnlyTakes old.world) (g.H.Device.sound c.next_batch.new.host t) (c.next_batch.ensures.takes t) in
    ready_beside c.args.self.engine old.world mid.world (c.requires.ready t) (same_taken old.world mid.world takes)

pub returns-in-Err-answered-clause-keeps : goal.returns-in-Err-answered-clause-keeps
returns-in-Err-answered-clause-keeps g c =
    c.answer_taken-run.ensures.answers.keeps

pub returns-in-Err-answered-clause-open : goal.returns-in-Err-answered-clause-open
returns-in-Err-answered-clause-open g c t =
    let old = g.H.Device.history c.args.host.now in
    let mid = g.H.Device.history c.next_batch.new.host in
    let new = g.H.Device.history c.answer_taken-run.new.host in
    record {
      config = config_then old mid new (g.H.Device.sound c.next_batch.new.host t) (config_take old mid (c.next_batch.ensures.takes t)) (config_answers mid new (c.answer_taken-run.ensures.answers.only_answers t));
      ready = tt;
      input_end = tt;
    }

pub returns-in-Err-answered-clause-stops : goal.returns-in-Err-answered-clause-stops
returns-in-Err-answered-clause-stops g c t wanted last number can =
    let old = g.H.Device.history c.args.host.now in
    let mid = g.H.Device.history c.next_batch.new.host in
    let taken = c.answer_taken-run in
    let new = g.H.Device.history taken.new.host in
    let batch = c.in-Ok.batch in
    let its = c.in-Ok.ensures.taken t in
    let few : length (batch_lines batch) ≤ 2048 = omega (arith, c.in-Ok.ensures.batch.few, c.in-Ok.ensures.batch.one, length-append batch.lines.items batch.alone.items) in
    let stops = taken_goes g.H.Device.tells wanted last number old mid new c.args.self taken.result.0 (script_of (rest_of c.args.input.now old.world)) (batch_lines batch) (script_of its.left) its.taken.script few
    (g.H.Device.sound c.next_batch.new.host t) (c.next_batch.ensures.takes t) (Err c.in-Err-answered.fault)
    (subst (λ r. AnswersLines g.H.Device.tells mid new (batch_lines batch) c.args.self taken.result.0 r) c.in-Err-answered.is taken.ensures.answers) t can in
    stops_anywhere wanted last number old new (script_of (rest_of c.args.input.now old.world)) (script_of its.left) [] c.args.self taken.result.0 c.in-Err-answered.fault stops

pub returns-clause-keeps : goal.returns-clause-keeps
returns-clause-keeps g c =
    c.answer_taken-run.ensures.answers.keeps

pub returns-clause-counted : goal.returns-clause-counted
returns-clause-counted g c =
    let batch = c.in-Ok.batch in
    let counts = c.in-Ok.ensures.counts in
    let lines = (answered_lines c.answer_taken-run.result.1 c.in-Ok-answered.is c.answer_taken-run.ensures.answers).counts in
    record {
      few = omega (arith, counts.few (omega (arith, c.requires.counted, c.requires.few)), c.requires.counted, lines.counted);
      same = λ is. omega (arith, counts.lines is, c.requires.counted, lines.counted);
      some = λ is. omega (arith, c.in-Ok.ensures.batch.some is, lines.counted);
      is_open = lines.is_open;
      more = length (batch_lines batch);
      lines = lines.counted;
      numbers = lines.numbers;
    }

pub returns-clause-open : goal.returns-clause-open
returns-clause-open g c t =
    let old = g.H.Device.history c.args.host.now in
    let mid = g.H.Device.history c.next_batch.new.host in
    let new = g.H.Device.history c.answer_taken-run.new.host in
    let answers = answered_lines c.answer_taken-run.result.1 c.in-Ok-answered.is c.answer_taken-run.ensures.answers in
    let only = at_last mid new (OnlyAnswers mid.world) (g.H.Device.sound c.answer_taken-run.new.host t) (answers.only_answers t) in
    record {
      config = config_then old mid new (g.H.Device.sound c.next_batch.new.host t) (config_take old mid (c.next_batch.ensures.takes t)) (config_answers mid new (answers.only_answers t));
      ready = answers.ready t;
      input_end = λ ended. only.input ∙ c.in-Ok.ensures.input_end t ended;
    }

pub returns-clause-answered : goal.returns-clause-answered
returns-clause-answered g c t =
    let old = g.H.Device.history c.args.host.now in
    let mid = g.H.Device.history c.next_batch.new.host in
    let taken = c.answer_taken-run in
    let new = g.H.Device.history taken.new.host in
    let batch = c.in-Ok.batch in
    let its = c.in-Ok.ensures.taken t in
    let answers = answered_lines taken.result.1 c.in-Ok-answered.is taken.ensures.answers in
    let only = at_last mid new (OnlyAnswers mid.world) (g.H.Device.sound taken.new.host t) (answers.only_answers t) in
    let few : length (batch_lines batch) ≤ 2048 = omega (arith, c.in-Ok.ensures.batch.few, c.in-Ok.ensures.batch.one, length-append batch.lines.items batch.alone.items) in
    record {
      lines = batch_lines batch;
      at = its.at;
      left = its.left;
      taken = its.taken;
      count = answers.counts.counted;
      continues = subst (λ (i : List ℕ). ContinuationIs batch.continuation its.at c.next_batch.new.input its.left (c.next_batch.new.input.pending ++ i)) (sym only.input) its.continues;
      goes = λ wanted last number can.
          taken_goes g.H.Device.tells wanted last number old mid new c.args.self taken.result.0 (script_of (rest_of c.args.input.now old.world)) (batch_lines batch) (script_of its.left) its.taken.script few
          (g.H.Device.sound c.next_batch.new.host t) (c.next_batch.ensures.takes t) (Ok tt) answers t can;
    }

-- ---- pages that the lines met

pub returns-in-Err-answered-clause-meets : goal.returns-in-Err-answered-clause-meets
returns-in-Err-answered-clause-meets g c t =
    let old = g.H.Device.history c.args.host.now in
    let mid = g.H.Device.history c.next_batch.new.host in
    let taken = c.answer_taken-run in
    let new = g.H.Device.history taken.new.host in
    let its = c.in-Ok.ensures.taken t in
    let takes = at_last old mid (OnlyTakes old.world) (g.H.Device.sound c.next_batch.new.host t) (c.next_batch.ensures.takes t) in
    let lines = batch_lines c.in-Ok.batch in
    let answers : AnswersLines g.H.Device.tells mid new lines c.args.self taken.result.0 (Err c.in-Err-answered.fault) =
    subst (λ r. AnswersLines g.H.Device.tells mid new lines c.args.self taken.result.0 r) c.in-Err-answered.is taken.ensures.answers in
    script_stops (script_of (rest_of c.args.input.now old.world)) (script_of (rest_of c.next_batch.new.input new.world)) old.world new.world c.args.self taken.result.0
    mid.world (pages_beside c.args.self.engine old.world mid.world (same_taken old.world mid.world takes)) lines (script_of its.left) its.taken.script c.in-Err-answered.fault (answers.meets t)

pub returns-clause-meets : goal.returns-clause-meets
returns-clause-meets g c t =
    let old = g.H.Device.history c.args.host.now in
    let mid = g.H.Device.history c.next_batch.new.host in
    let taken = c.answer_taken-run in
    let new = g.H.Device.history taken.new.host in
    let batch = c.in-Ok.batch in
    let its = c.in-Ok.ensures.taken t in
    let takes = at_last old mid (OnlyTakes old.world) (g.H.Device.sound c.next_batch.new.host t) (c.next_batch.ensures.takes t) in
    let lines = batch_lines batch in
    let answers = answered_lines taken.result.1 c.in-Ok-answered.is taken.ensures.answers in
    let only = at_last mid new (OnlyAnswers mid.world) (g.H.Device.sound taken.new.host t) (answers.only_answers t) in
    let continues : ContinuationIs batch.continuation its.at c.next_batch.new.input its.left (rest_of c.next_batch.new.input new.world) =
    subst (λ (i : List ℕ). ContinuationIs batch.continuation its.at c.next_batch.new.input its.left (c.next_batch.new.input.pending ++ i)) (sym only.input) its.continues in
    script_goes (script_of (rest_of c.args.input.now old.world)) (script_of (rest_of c.next_batch.new.input new.world)) old.world new.world c.args.self taken.result.0
    mid.world (pages_beside c.args.self.engine old.world mid.world (same_taken old.world mid.world takes)) lines (script_of its.left) its.taken.script batch.continuation
    (left_script batch.continuation its.at c.next_batch.new.input its.left (rest_of c.next_batch.new.input new.world) continues) (answers.meets t)
