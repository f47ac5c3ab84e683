-- When pages pass their checks after a put.
use Rattle.std.specs.Prelude.{◌≡◌, ℕ, ◌≤◌, ◌⊎◌, List, Some}
use Rattle.pm_types.specs.declared.limits.TheConstants.{ROWS_MAX}
use Rattle.pm_types.specs.declared.page_id.Link.{Link}
use Rattle.pm_btpage.specs.IndexPages.{Item}
use Rattle.pm_pages.specs.Rows.{Partition}
use Rattle.pm_pages.specs.Trees.{root_of}
use Rattle.pm_pages.specs.Paged.{Paged}
use Rattle.pm_tree.specs.declared.put.Put.{Put}
use Rattle.pm_tree.specs.Puts.{IsKept}
use Rattle.pm_tree.specs.Indexes.{IsIndex, link_in}
use Rattle.pm_pages.specs.SoundPages.{PassesAll}
use Rattle.pm_tree.specs.SoundPuts.{HasSparePages}
use Rattle.pm_pages.specs.StoredPages.{IsStored}

-- A put at a key that was there: the page has the tree still, and where this was given pages that pass their
-- checks do so still.
pub record KeepsPage (old new : Paged) (given : Type 0) (put : Put) : Type 0 where
  pub kept : IsKept put
  pub passes : given → IsStored old → IsStored new

-- the index of a cache has the key
pub record HasKey (pages : Partition) (cache : ℕ) (key : List ℕ) : Type 0 where
  pub height : ℕ
  pub nodes : List ℕ
  pub items : List Item
  pub index : IsIndex pages (root_of pages cache) height nodes items
  pub held : Link
  pub is : link_in items key ≡ Some held

-- The pages of a partition pass their checks, and do so still after a put of this key: 17 more pages can be
-- taken, or the index has the key.
abbrev pub MayPutKey : Paged → ℕ → List ℕ → Type 0
MayPutKey p cache key = HasSparePages p 17 ⊎ (PassesAll p × (p.max_rows ≤ ROWS_MAX) × HasKey p.pages cache key)
