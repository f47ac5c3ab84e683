use Rattle.std.proofs.Common.{◌++◌, ◌-◌, ◌∙◌, ap, rules, take, drop, arith}
use Rattle.std.proofs.lemmas.List.{append_assoc}
use Rattle.pm_logger.specs.Blocks.{joined}
use Rattle.pm_logger.specs.LogEnds.{pushed}
use Rattle.pm_logger.proofs.Joining.{joined-push, take_piece}
use Rattle.pm_logger.proofs.log_end.LogEnd.push_bytes.Goals as goal

pub each-preserved : goal.each-preserved
each-preserved c =
    let at = c.each.at in
    let end = c.next_cut-end.result in
    let bytes = c.args.bytes.now in (
      (search rules),
      c.next_cut-end.ensures.within,
      ap joined (c.in-Ok.ensures.pushed) ∙ joined-push (pushed c.each.self) c.new.result ∙ (λ i. c.each.invariant.2 i ++ c.new.ensures i)
          ∙ append_assoc (joined (pushed c.args.self.now)) (take at bytes) (take (end - at) (drop at bytes)) ∙ ap (λ b. joined (pushed c.args.self.now) ++ b) (take_piece at end bytes (omega (arith, c.next_cut-end.ensures.later)) c.each.invariant.1),
    )
