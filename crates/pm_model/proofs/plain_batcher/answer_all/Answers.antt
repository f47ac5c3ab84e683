use Rattle.std.proofs.Common.{◌≡◌, ◌+◌, ◌-◌, ◌++◌, [], List, length, drop, sym, ap, ◌∙◌, append-nil, arith}
use Rattle.std.proofs.lemmas.List.{drop_all}
use Rattle.pm_types.specs.declared.shape.Shape.{Shape}
use Rattle.pm_model.specs.declared.line.Line.{Line}
use Rattle.pm_model.specs.Eval.{Pairs, replies_to}
use Rattle.pm_model.specs.ReplyLists.{ReplyList, with_replies}
use Rattle.pm_model.proofs.Runs.{length-replies_to}
use Rattle.pm_model.proofs.plain_batcher.answer_all.Goals as goal

-- the replies to all lines, in the room for as many
all_told : (shape : Shape) (lines : List Line) (pairs : Pairs) (old new : ReplyList) → new.replies ≡ old.replies ++ replies_to shape lines pairs → new.spare + length lines ≡ old.spare → new ≡ with_replies (replies_to shape lines pairs) old
all_told shape lines pairs old new told spare =
    let less : new.spare ≡ old.spare - length (replies_to shape lines pairs) = omega (arith, length-replies_to shape lines pairs) in
    λ i. record { replies = told i; spare = less i }

pub returns-clause-replies : goal.returns-clause-replies
returns-clause-replies c =
    let left : drop c.each.line-index c.args.lines.now ≡ [] = drop_all c.each.line-index c.args.lines.now (omega arith) in
    let told = sym (append-nil c.each.replies.replies) ∙ ap (λ lines. c.each.replies.replies ++ replies_to c.args.shape lines c.each.map) (sym left) ∙ c.each.invariant.told in
    all_told c.args.shape c.args.lines.now c.args.map.now c.args.replies.now c.each.replies told (omega arith)
