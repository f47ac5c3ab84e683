use Rattle.std.proofs.Common.{◌∙◌, ◌++◌, List, ℕ, sym, ap, arith}
use Rattle.std.proofs.lemmas.List.{take_all}
use Rattle.pm_script.specs.Texts.{text_of, texts_of}
use Rattle.pm_top.proofs.WrittenTexts.{texts_more}
use Rattle.pm_top.proofs.run.write_replies.Goals as goal

pub each-preserved : goal.each-preserved
each-preserved c =
    c.in_ok-print_reply.ensures.appended
    ∙ ap (λ (bs : List ℕ). bs ++ text_of c.get.result.now) c.each.invariant
    ∙ sym (texts_more c.args.replies.now.replies c.each.i c.get.result.now c.get.ensures)

pub returns : goal.returns
returns c = c.each.invariant ∙ ap texts_of (take_all c.each.i c.args.replies.now.replies (omega arith))
