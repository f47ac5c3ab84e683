-- A partition whose pages pass their checks, from which no call answers a bad page.
use Rattle.std.specs.Prelude.{◌≡◌, ℕ, ◌+◌, ◌^◌, ◌<◌, ◌≤◌, ◌⊎◌, IsSomeAnd, IsTrue, Result, IsErrOf, length}
use Rattle.pm_types.specs.declared.page_id.PageId.{PageId}
use Rattle.pm_types.specs.declared.fault.PageFault.{PageFault}
use Rattle.pm_types.specs.declared.fault.PageFault.TheVariants.{BadPage}
use Rattle.pm_types.specs.declared.shape.Shape.{Shape}
use Rattle.pm_pages.specs.Rows.{page_count}
use Rattle.pm_pages.specs.Chains.{reuse_chain}
use Rattle.pm_pages.specs.Paged.{Paged, PassesIn}
use Rattle.pm_pages.specs.WellFormed.{AllPass}
use Rattle.pm_pages.specs.SpareChains.{HasSpare}

-- the pages pass as those of a partition of a store of some shape, which has this page size and as many rows at
-- most
pub record PassesAll (p : Paged) : Type 0 where
  pub shape : Shape
  pub page_size : shape.page_size ≡ p.page_size
  pub max_rows : shape.max_rows ≡ p.max_rows
  pub pass : AllPass shape p.part p.pages

-- the answer isn't that a page is bad
abbrev pub NoBadPage : {R : Type 0} → Result R PageFault → Type 0
NoBadPage result = (id : PageId) → IsErrOf result (BadPage id) → ⊥

-- each page below the page count is there, and is at hand or passes its check
pub record IsSound (p : Paged) : Type 0 where
  pub each : (i : ℕ) → i < page_count p.pages
      → IsSomeAnd (p.pages i) (λ page. IsTrue (p.known i) ⊎ PassesIn p i page)

-- So many pages can be taken, one after the other, where a partition has so many pages at most:
-- those of the reuse chain, and those after the last. Each page is sound.
pub record CanTake (limit : ℕ) (p : Paged) (n : ℕ) : Type 0 where
  pub sound : IsSound p
  pub spare : HasSpare p.pages
  pub some : 1 ≤ page_count p.pages
  pub room : page_count p.pages + n ≤ length (reuse_chain p.pages) + limit

-- a page can be taken, and the store reports its pages
pub record MayTake (T : Type 0) (p : Paged) : Type 0 where
  pub told : T
  pub limit : ℕ
  pub small : limit < 2 ^ 32
  pub take : CanTake limit p 1
