use Rattle.std.proofs.Common.{◌⊎◌, ap, subst, sym, ◌∙◌}
use Rattle.pm_types.specs.Spans.{Coverage, Covers, span_of, IsInSpan, NeedsWhole}
use Rattle.pm_pages.proofs.WholePages.{needs_whole}
use Rattle.pm_stripe.proofs.lending.whole_patch.Goals as goal

pub returns : goal.returns
returns c = record {
  whole = c.add.ensures.whole_if_needed.1 (subst (λ (none : Coverage). NeedsWhole none.page_size (λ k. Covers none k ⊎ IsInSpan (span_of 0 c.args.page_size) k)) (sym c.none-whole.ensures) (needs_whole c.args.page_size c.requires));
  size = c.add.ensures.size ∙ ap (λ (p : Coverage). p.page_size) c.none-whole.ensures;
}
