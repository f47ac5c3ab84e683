-- All pages of a partition pass their checks still.
use Rattle.std.proofs.Common.{◌≡◌, ℕ, zero, suc, ◌^◌, ◌<◌, ◌≤◌, ◌⊎◌, List, sym, subst, ◌∙◌, inl, arith}
use Rattle.std.specs.Prelude.{IfSome, IsSomeAnd}
use Rattle.pm_types.specs.Ids.{page_id}
use Rattle.pm_pages.specs.Rows.{page_count}
use Rattle.pm_pages.specs.Paged.{Paged, PassesIn}
use Rattle.pm_pages.specs.Edits.{LooksAtPages, EditsPages}
use Rattle.pm_pages.proofs.PassingPages.{count_within, all_kept}
use Rattle.pm_pages.specs.SoundPages.{PassesAll}
use Rattle.pm_pages.specs.StoredPages.{IsStored, IsStoredPage}
use Rattle.pm_pages.proofs.PassingLooks.{page_passes, page_there, passes_looked}
use Rattle.pm_types.specs.declared.shape.Shape.{Shape}
use Rattle.pm_pages.specs.Passes.{Passes, PassesAsMeta, PassesAt}
use Rattle.pm_pages.specs.WellFormed.{AllPass}

-- all pages of a partition pass as those of a store of this shape
pub all_there : (c : Paged) (shape : Shape) → shape.page_size ≡ c.page_size → shape.max_rows ≡ c.max_rows → IsStoredPage c 0 → ((i : ℕ) → 1 ≤ i → i < page_count c.pages → IsStoredPage c i) → AllPass shape c.part c.pages
all_there c shape page_size max_rows meta there = record { meta = subst (λ o. IfSome o (PassesAsMeta shape.page_size shape.max_rows (page_id c.part 0))) (sym meta.1) (of_shape 0 meta.0 meta.2); each = each_there }
  where
    of_shape : (i : ℕ) (page : List ℕ) → PassesIn c i page → PassesAt shape.page_size shape.max_rows c.part i page
    of_shape i page passes = subst (λ (q : ℕ × ℕ). PassesAt q.0 q.1 c.part i page) {x = (c.page_size, c.max_rows)} {y = (shape.page_size, shape.max_rows)} (λ k. (sym page_size k, sym max_rows k)) passes

    each_there : (i : ℕ) → i < page_count c.pages → IsSomeAnd (c.pages i) (Passes shape.page_size shape.max_rows (page_id c.part i))
    each_there zero lt = subst (λ o. IsSomeAnd o (Passes shape.page_size shape.max_rows (page_id c.part 0))) (sym meta.1) (let q = of_shape 0 meta.0 meta.2 in record { size = q.size; kind = inl q.stored })
    each_there (suc i) lt = (let h = there (suc i) (omega arith) lt in subst (λ o. IsSomeAnd o (Passes shape.page_size shape.max_rows (page_id c.part (suc i)))) (sym h.1) (of_shape (suc i) h.0 h.2))

-- the page count of a partition that a store may have is small
pub meta_there : (p : Paged) → PassesAll p → 1 ≤ page_count p.pages → IsStoredPage p 0
meta_there p all some = (let page = page_there p 0 all (omega (arith, some)) in (page.0, page.1, page_passes p 0 page.0 all (omega (arith, some)) page.1))

pub count_small : (p : Paged) → p.max_rows ≤ 400000 → IsStoredPage p 0 → page_count p.pages < 2 ^ 32
count_small p rows meta = omega (arith, rows, (count_within p meta).1)

-- every page that was changed passes, and so does each that the partition has besides: all pass still
pub all_stored : (T : Type 0) (a c : Paged) (touched : ℕ → Type 0) (m : ℕ) → T → EditsPages T a c touched m → ((j : ℕ) → touched j ⊎ (touched j → ⊥)) → IsStoredPage c 0
    → (c.part < 2 ^ 16 → (j : ℕ) → 1 ≤ j → j < 2 ^ 32 → touched j → IsStoredPage c j) → ((j : ℕ) → j < page_count c.pages → (j < page_count a.pages) ⊎ touched j) → IsStored a → IsStored c
all_stored T a c touched m t edits decide meta there added stored =
    let part : c.part < 2 ^ 16 = omega (arith, stored.part, edits.same.part) in
    let rows : c.max_rows ≤ 400000 = omega (arith, stored.rows, edits.same.max_rows) in
    let size = stored.all.page_size ∙ sym edits.same.page_size in
    let most = stored.all.max_rows ∙ sym edits.same.max_rows in
    record {
      all = record {
        shape = stored.all.shape;
        page_size = size;
        max_rows = most;
        pass = all_kept T a c touched m t edits decide meta (λ j some lt h. there part j some (omega (arith, lt, count_small c rows meta)) h) added stored.all.shape size most
            (λ j some lt. (let page = page_there a j stored.all lt in (page.0, page.1, page_passes a j page.0 stored.all lt page.1)));
      };
      rows = rows;
      part = part;
    }

-- pages that were only looked at
pub stored_looked : (T : Type 0) (a b : Paged) (m : ℕ) → T → LooksAtPages T a b m → IsStored a → IsStored b
stored_looked T a b m t looks stored = record { all = passes_looked T a b m t looks stored.all; rows = omega (arith, stored.rows, looks.same.max_rows); part = omega (arith, stored.part, looks.same.part) }
