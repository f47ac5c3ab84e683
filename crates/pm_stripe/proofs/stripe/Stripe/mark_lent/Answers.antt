use Rattle.std.proofs.Common.{length, ap, ◌∙◌}
use Rattle.std.proofs.lemmas.List.{length-set}
use Rattle.pm_stripe.specs.Stripes.{kept}
use Rattle.pm_stripe.proofs.MadePages.{same_then}
use Rattle.pm_stripe.proofs.MarkedPages.{marks_page, same_marked}
use Rattle.pm_stripe.proofs.stripe.Stripe.mark_lent.Goals as goal

pub each-preserved : goal.each-preserved
each-preserved c = record {
  marks = λ locks seat holds. marks_page locks seat (kept c.args.self.now seat) c.each.self c.mark.new.self c.each.at (c.each.invariant.marks locks seat holds) c.mark.ensures;
  same = same_then c.args.self.now c.each.self c.mark.new.self c.each.invariant.same (same_marked c.each.self c.mark.new.self c.each.at c.mark.ensures);
  long = ap length c.mark.ensures.held ∙ length-set c.each.self.held.items c.each.at c.mark.ensures.now ∙ c.each.invariant.long;
}
