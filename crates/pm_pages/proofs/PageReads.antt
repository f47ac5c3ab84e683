-- Pages of a list, read by index.
use Rattle.std.proofs.Common.{◌≡◌, ℕ, ◌<◌, List, length, get_or, refl, subst, sym, ap, ◌∙◌}
use Rattle.std.specs.Prelude.{Option, None, Some, IsSomeAnd}
use Rattle.std.specs.Option.{option_map}
use Rattle.std.proofs.lemmas.Bool.{lt-ltb}
use Rattle.std.proofs.lemmas.Option.{slice_get-get_or}
use Rattle.pm_types.specs.declared.page.Page.{Page}
use Rattle.pm_pages.specs.Rows.{Partition, bytes_of, page_at, page_count}
use Rattle.pm_pages.specs.PageLists.{pages_in, IsReadable, AreReadable}

-- what a page's bytes are
pub page_read : (pages : List Page) (i : ℕ) (page : Page) → i < length pages → page ≡ get_or pages i page → pages_in pages i ≡ Some page.bytes.items
page_read pages i page lt is = ap (option_map (λ (p : Page). p.bytes.items)) (slice_get-get_or pages i page lt ∙ ap Some (sym is))

-- what a page below the page count is
pub page_at-below : (pages : Partition) (i : ℕ) → i < page_count pages → page_at pages i ≡ bytes_of (pages i)
page_at-below pages i lt = simp (lt-ltb i (page_count pages) lt) refl

-- a page below the page count reads as what it says
pub reads : (pages : Partition) (i : ℕ) → AreReadable pages → i < page_count pages → IsReadable (page_at pages i)
reads pages i readable lt = subst IsReadable (sym (page_at-below pages i lt)) (of_found (pages i) (readable.each i lt))
  where
    of_found : (o : Option (List ℕ)) → IsSomeAnd o IsReadable → IsReadable (bytes_of o)
    of_found None h = absurd h
    of_found (Some page) h = h
