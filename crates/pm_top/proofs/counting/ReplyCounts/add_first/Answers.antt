use Rattle.std.proofs.Common.{◌∙◌, take, sym, ap, arith}
use Rattle.std.proofs.lemmas.List.{length-take}
use Rattle.pm_top.specs.declared.counting.ReplyCounts.{ReplyCounts}
use Rattle.pm_top.specs.ReplyCounts.{counted_in, with_all, with_reply}
use Rattle.pm_top.proofs.CountedReplies.{counted_at_most, one_counted, take_few}
use Rattle.pm_top.proofs.counting.ReplyCounts.add_first.Goals as goal

pub add-requires : goal.add-requires
add-requires c =
    omega (arith, c.requires, ap counted_in c.each.invariant, counted_at_most c.args.self.now (take c.each.i c.args.replies.now.replies), length-take c.each.i c.args.replies.now.replies)

pub each-preserved : goal.each-preserved
each-preserved c =
    c.add.ensures ∙ ap (λ (counts : ReplyCounts). with_reply counts c.get.result.now) c.each.invariant
    ∙ sym (one_counted c.args.self.now c.args.replies.now.replies c.each.i c.get.result.now c.get.ensures)

pub returns : goal.returns
returns c =
    let all = c.args.replies.now.replies in
    c.each.invariant
    ∙ ap (with_all c.args.self.now) (take_few all c.each.i c.args.most (omega (arith, c.each.auto.i-end, c.min-i-end.ensures)) (λ few. omega (arith, few, c.each-test.false, c.min-i-end.ensures, c.len.ensures)))
