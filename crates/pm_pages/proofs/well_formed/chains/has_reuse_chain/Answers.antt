use Rattle.std.proofs.Common.{ℕ, get_or, sym, ap, ◌∙◌, inl, inr, arith}
use Rattle.std.proofs.lemmas.Bool.{cases_eq}
use Rattle.std.proofs.lemmas.List.{get_or_default}
use Rattle.pm_pages.specs.PageLists.{pages_in}
use Rattle.pm_pages.specs.Rows.{page_at, kind_of}
use Rattle.pm_pages.proofs.well_formed.chains.has_reuse_chain.Goals as goal

pub each-preserved : goal.each-preserved
each-preserved c k d lt = elim (cases_eq k c.each.i-index) [
  | inl same ↦
      let kind = λ (i : ℕ). kind_of (page_at (pages_in c.args.pages.now) i) in
      let here = get_or_default c.args.chain.now c.each.i-index d 0 c.each-test.true in
      ap (λ j. kind (get_or c.args.chain.now j d)) same ∙ ap kind here ∙ ap kind_of (sym c.page.ensures.bytes) ∙ c.is_of.ensures.0 c.if-not-is_of.false
  | inr away ↦ c.each.invariant k d (omega (arith, away))
]
