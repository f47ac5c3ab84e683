-- Which frame keeps which page of a worker, both ways.
use Rattle.std.specs.Prelude.{◌≡◌, ℕ, ◌+◌, List, [], ◌∷◌, Option, Some, None, slice_get}
use Rattle.std.specs.FinMap as map
use Rattle.std.specs.Option.{option_map}
use Rattle.std.specs.FinMap.{FinMap}
use Rattle.std.specs.Ordering.{nat_cmp}
use Rattle.pm_types.specs.declared.page_id.PageId.{PageId}

-- the table names a frame for a page exactly where the frame has that page
pub record AgreeOnPages (table : FinMap nat_cmp (ℕ × ℕ)) (pages : List (Option PageId)) : Type 0 where
  pub kept : (page : PageId) (f tag : ℕ) → map.get table page.0 ≡ Some (f, tag)
      → slice_get pages f ≡ Some (Some page)
  pub named : (page : PageId) (f : ℕ) → slice_get pages f ≡ Some (Some page)
      → option_map (λ place. place.0) (map.get table page.0) ≡ Some f

-- how many frames have a page
abbrev pub kept_count : List (Option PageId) → ℕ
kept_count [] = 0
kept_count (None ∷ pages) = kept_count pages
kept_count (Some page ∷ pages) = kept_count pages + 1

-- the table names the frame for no page
abbrev pub KeepsNone : FinMap nat_cmp (ℕ × ℕ) → ℕ → Type 0
KeepsNone table f = (page : PageId) (tag : ℕ) → map.get table page.0 ≡ Some (f, tag) → ⊥

-- the table without the page that a frame has
abbrev pub forgotten : FinMap nat_cmp (ℕ × ℕ) → Option (Option PageId) → FinMap nat_cmp (ℕ × ℕ)
forgotten table None = table
forgotten table (Some None) = table
forgotten table (Some (Some page)) = map.remove table page.0

-- no frame has a page, and the table names none
abbrev pub AreAllEmpty : List (Option PageId) → Type 0
AreAllEmpty pages = (f : ℕ) (page : PageId) → slice_get pages f ≡ Some (Some page) → ⊥

abbrev pub KeepsNoPage : FinMap nat_cmp (ℕ × ℕ) → Type 0
KeepsNoPage table = (id : ℕ) → map.get table id ≡ None
