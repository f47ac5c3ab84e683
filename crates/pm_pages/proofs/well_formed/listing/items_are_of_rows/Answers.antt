use Rattle.std.proofs.Common.{get_or, refl, subst, sym, ap, ◌∙◌, inl, inr, arith}
use Rattle.std.specs.Prelude.{Any}
use Rattle.std.proofs.lemmas.Bool.{cases_eq}
use Rattle.std.proofs.lemmas.List.{get_or_default}
use Rattle.pm_pages.specs.declared.well_formed.listing.TreeItem.{TreeItem}
use Rattle.pm_pages.specs.PageLists.{pages_in}
use Rattle.pm_pages.specs.Rows.{rows_of}
use Rattle.pm_pages.specs.TreeItems.{as_item}
use Rattle.pm_pages.specs.Trees.{IsItemOf}
use Rattle.pm_pages.proofs.well_formed.listing.items_are_of_rows.Goals as goal

pub returns-then-not-is_of_row : goal.returns-then-not-is_of_row
returns-then-not-is_of_row c = (
  λ h. absurd (cc h),
  λ all. sym c.if-not-is_of_row.true ∙ c.is_of_row.ensures.1
      (subst (λ (t : TreeItem). Any (IsItemOf c.args.cache (as_item t)) (rows_of c.args.part (pages_in c.args.pages.now))) (sym c.item-item.is) (all c.items.item-index c.item-item.result c.items-test.true)),
)

pub items-preserved : goal.items-preserved
items-preserved c k d lt = elim (cases_eq k c.items.item-index) [
  | inl same ↦
      let here = c.item-item.is ∙ get_or_default c.args.items.now c.items.item-index c.item-item.result d c.items-test.true ∙ ap (λ j. get_or c.args.items.now j d) (sym same) in
      subst (λ (t : TreeItem). Any (IsItemOf c.args.cache (as_item t)) (rows_of c.args.part (pages_in c.args.pages.now))) here (c.is_of_row.ensures.0 c.if-not-is_of_row.false)
  | inr away ↦ c.items.invariant k d (omega (arith, away))
]

pub returns : goal.returns
returns c = (λ h k d lt. c.items.invariant k d (omega (arith, lt, c.items-test.false)), λ all. refl)
