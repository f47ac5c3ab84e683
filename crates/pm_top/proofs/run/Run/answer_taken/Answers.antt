use Rattle.std.proofs.Common.{List, Ok, Err, length, sym, ap, subst, arith, length-append}
use Rattle.std.specs.List.{All}
use Rattle.pm_model.specs.declared.line.Line.{Line}
use Rattle.pm_model.specs.Batches.{HasCache}
use Rattle.pm_top.specs.Runs.{AnswersLines}
use Rattle.pm_top.proofs.AnsweredBatch.{both_or_second, first_stops}
use Rattle.pm_top.proofs.run.Run.answer_taken.Goals as goal

pub answer_lines-run-requires-clause-caches : goal.answer_lines-run-requires-clause-caches
answer_lines-run-requires-clause-caches g c _ _ =
    subst (λ (ls : List Line). All HasCache ls) (sym c.deref.ensures.value) c.requires.batch.caches

pub answer_lines-run-requires-clause-few : goal.answer_lines-run-requires-clause-few
answer_lines-run-requires-clause-few g c _ _ =
    omega (arith, c.requires.batch.few, ap (λ (ls : List Line). length ls) c.deref.ensures.value)

pub answer_lines-run-requires-clause-numbers : goal.answer_lines-run-requires-clause-numbers
answer_lines-run-requires-clause-numbers g c _ _ =
    omega (arith, c.requires.numbers, ap (λ (ls : List Line). length ls) c.deref.ensures.value, length-append c.args.batch.now.lines.items c.args.batch.now.alone.items)

pub returns-in-Err-clause-answers : goal.returns-in-Err-clause-answers
returns-in-Err-clause-answers g c =
    let tells = g.H.Device.tells in
    let old = g.H.Device.history c.args.host.now in
    let one = c.answer_lines-run in
    let mid = g.H.Device.history one.new.host in
    let batch = c.args.batch.now in
    let first : AnswersLines tells old mid batch.lines.items c.args.self one.result.0 (Err c.in-Err.fault) =
    subst (λ (ls : List Line). AnswersLines tells old mid ls c.args.self one.result.0 (Err c.in-Err.fault)) c.deref.ensures.value (subst (λ r. AnswersLines tells old mid c.deref.result.now c.args.self one.result.0 r) c.in-Err.is one.ensures.answers) in
    first_stops tells old mid batch.lines.items batch.alone.items c.args.self one.result.0 c.in-Err.fault first

pub returns-in-Ok-clause-answers : goal.returns-in-Ok-clause-answers
returns-in-Ok-clause-answers g c =
    let tells = g.H.Device.tells in
    let old = g.H.Device.history c.args.host.now in
    let one = c.answer_lines-run in
    let mid = g.H.Device.history one.new.host in
    let two = c.answer_lines in
    let new = g.H.Device.history two.new.host in
    let batch = c.args.batch.now in
    let first : AnswersLines tells old mid batch.lines.items c.args.self one.result.0 (Ok tt) =
    subst (λ (ls : List Line). AnswersLines tells old mid ls c.args.self one.result.0 (Ok tt)) c.deref.ensures.value (subst (λ r. AnswersLines tells old mid c.deref.result.now c.args.self one.result.0 r) c.in-Ok.is one.ensures.answers) in
    both_or_second tells old mid batch.lines.items batch.alone.items c.args.self one.result.0 new two.result.0 (g.H.Device.sound one.new.host) first two.result.1
    (subst (λ (ls : List Line). AnswersLines tells mid new ls one.result.0 two.result.0 two.result.1) c.deref-in-Ok.ensures.value two.ensures.answers)
