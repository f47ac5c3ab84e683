-- All pages of a partition pass their checks still, once its row count was set.
use Rattle.std.proofs.Common.{◌≡◌, ℕ, ◌≤◌, sym, ◌∙◌, inl, arith}
use Rattle.std.proofs.lemmas.Bool.{cases_eq}
use Rattle.pm_meta.specs.declared.slots.MetaSlot.TheVariants.{Rows, Pages}
use Rattle.pm_pages.specs.Rows.{page_count}
use Rattle.pm_pages.specs.Paged.{Paged}
use Rattle.pm_pages.specs.Edits.{EditsPages}
use Rattle.pm_pages.specs.SparePages.{SetsNumber, MetaBecomes}
use Rattle.pm_pages.specs.SoundPages.{PassesAll}
use Rattle.pm_pages.proofs.PassingPages.{meta_sets, all_kept}
use Rattle.pm_pages.proofs.PassingLooks.{page_there, page_passes}
use Rattle.pm_pages.proofs.SpareSteps.{number_by}
use Rattle.pm_pages.proofs.StoredPages.{meta_there}

pub count_passes : (T : Type 0) (a b : Paged) (count m : ℕ) → T → EditsPages T a b (λ j. j ≡ 0) m → MetaBecomes a b (λ was now. SetsNumber was now Rows count)
    → count ≤ a.max_rows → 1 ≤ page_count a.pages → PassesAll a → PassesAll b
count_passes T a b count m t edits sets few some all = record {
  shape = all.shape;
  page_size = all.page_size ∙ sym edits.same.page_size;
  max_rows = all.max_rows ∙ sym edits.same.max_rows;
  pass = all_kept T a b (λ j. j ≡ 0) m t edits (λ j. cases_eq j 0)
      (meta_sets a b Rows count edits.same sets.was sets.now sets.before sets.after sets.change few (meta_there a all some))
      (λ j le lt e. absurd (omega (arith, e, le)))
      (λ j lt. inl (omega (arith, lt, number_by b.pages Pages sets.now sets.after, number_by a.pages Pages sets.was sets.before, sets.change.others Pages tt (λ e. absurd (cc e)))))
      all.shape (all.page_size ∙ sym edits.same.page_size) (all.max_rows ∙ sym edits.same.max_rows)
      (λ i le lt. (let page = page_there a i all lt in (page.0, page.1, page_passes a i page.0 all lt page.1)));
}
