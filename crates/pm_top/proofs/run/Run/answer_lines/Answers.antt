use Rattle.std.proofs.Common.{◌≡◌, [], length, false, sym, ◌∙◌, arith}
use Rattle.std.proofs.lemmas.Bool.{eqb-true}
use Rattle.std.proofs.lemmas.Bool.Decides.{nat_tests}
use Rattle.std.specs.Prelude.{◌==◌}
use Rattle.std.proofs.lemmas.List.{nil_from_length}
use Rattle.pm_top.proofs.AnsweredBatch.{lines_unbegun, no_lines}
use Rattle.pm_top.proofs.run.Run.answer_lines.Goals as goal

pub returns-then-is_empty-clause-answers : goal.returns-then-is_empty-clause-answers
returns-then-is_empty-clause-answers g c =
    let none : c.args.lines.now ≡ [] = nil_from_length c.args.lines.now (eqb-true _ _ (sym c.is_empty.ensures ∙ c.if-is_empty.true)) in
    no_lines g.H.Device.tells (g.H.Device.history c.args.host.now) c.args.lines.now c.args.self (g.H.Device.sound c.args.host.now) c.requires.serving.is_open none c.requires.ready

pub returns-in-Err-clause-answers : goal.returns-in-Err-clause-answers
returns-in-Err-clause-answers g c =
    lines_unbegun g.H.Device.tells (g.H.Device.history c.args.host.now) c.args.lines.now c.args.self (g.H.Device.sound c.args.host.now)

pub answer_some-requires-clause-some : goal.answer_some-requires-clause-some
answer_some-requires-clause-some g c _ _ =
    let isnt : (length c.args.lines.now == 0) ≡ false = sym c.is_empty.ensures ∙ c.if-is_empty.false in
    grind (arith, nat_tests)
