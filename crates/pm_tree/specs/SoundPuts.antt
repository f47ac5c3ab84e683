-- When a put meets no bad page.
use Rattle.std.specs.Prelude.{◌≡◌, ℕ, ◌+◌, ◌*◌, ◌^◌, ◌<◌, ◌≤◌, ◌⊎◌, List, length, Some}
use Rattle.pm_types.specs.PageSizes.{IsPageSize}
use Rattle.pm_types.specs.declared.limits.TheConstants.{ROWS_MAX}
use Rattle.pm_btpage.specs.IndexPages.{Item}
use Rattle.pm_meta.specs.declared.layout.TheConstants.{EXTRA_PAGES}
use Rattle.pm_pages.specs.Rows.{page_count}
use Rattle.pm_pages.specs.Chains.{reuse_chain}
use Rattle.pm_pages.specs.Paged.{Paged}
use Rattle.pm_tree.specs.declared.put.Part.{Part}
use Rattle.pm_tree.specs.Grown.{IsParent}
use Rattle.pm_tree.specs.Indexes.{AnswersFrom, IsIndex}
use Rattle.pm_pages.specs.SpareChains.{HasSpare}
use Rattle.pm_tree.specs.declared.heights.TheConstants.{TALL_ROWS}
use Rattle.pm_pages.specs.SoundPages.{PassesAll, CanTake, MayTake}
use Rattle.pm_tree.specs.Sound.{HasTree}

-- page `at` is there and has a place for the new child, and a page can be taken
pub record MayTakeChild (T : Type 0) (p : Paged) (at i : ℕ) (part : Part) : Type 0 where
  pub take : MayTake T p
  pub page : List ℕ
  pub here : p.pages at ≡ Some page
  pub parent : IsParent page part.from i

-- the pages pass their checks, and the tree at page `at` has the key
pub record FindsKey (T : Type 0) (p : Paged) (levels at : ℕ) (key : List ℕ) : Type 0 where
  pub told : T
  pub all : PassesAll p
  pub held : ℕ
  pub answers : AnswersFrom p.pages key levels at (Some held)

-- at page `at` stands a tree, and as many pages can be taken as are asked for at most
pub record MayGrow (T : Type 0) (p : Paged) (levels at : ℕ) : Type 0 where
  pub told : T
  pub limit : ℕ
  pub small : limit < 2 ^ 32
  pub take : CanTake limit p (2 * levels)
  pub tree : HasTree p levels at

-- a put at page `at` meets no bad page: the key is there, or pages can be taken
abbrev pub MayPut : Type 0 → Paged → ℕ → ℕ → List ℕ → Type 0
MayPut T p levels at key = FindsKey T p levels at key ⊎ MayGrow T p levels at

-- A partition whose pages pass their checks, in which so many more pages can be taken: those of the
-- reuse chain, and those after the last up to the most that a partition may have.
pub record HasSparePages (p : Paged) (more : ℕ) : Type 0 where
  pub all : PassesAll p
  pub spare : HasSpare p.pages
  pub rows : p.max_rows ≤ ROWS_MAX
  pub room : page_count p.pages + more ≤ length (reuse_chain p.pages) + (2 * p.max_rows + EXTRA_PAGES)

-- at a root stands an index of fewer items than its height allows, and as many pages can be taken
-- as are asked for
pub record MayPutBelow (T : Type 0) (p : Paged) (root : ℕ) : Type 0 where
  pub told : T
  pub limit : ℕ
  pub small : limit < 2 ^ 32
  pub take : CanTake limit p 17
  pub size : IsPageSize p.page_size
  pub height : ℕ
  pub nodes : List ℕ
  pub items : List Item
  pub index : IsIndex p.pages root height nodes items
  pub few : length items < TALL_ROWS
