-- When a put meets no bad page.
use Rattle.std.specs.Prelude.{ℕ, ◌^◌, ◌<◌, ◌≤◌, List, length}
use Rattle.pm_btpage.specs.IndexPages.{Item}
use Rattle.pm_pages.specs.Trees.{root_of}
use Rattle.pm_pages.specs.Paged.{Paged}
use Rattle.pm_tree.specs.Indexes.{IsIndex}
use Rattle.pm_tree.specs.SoundPuts.{HasSparePages}
use Rattle.pm_free.specs.Placed.{HasChains}

-- All pages pass their checks, 18 more can be taken, and the chains are right. The index of a cache has no
-- more items than the partition may have rows.
pub record MayTakeRow (p : Paged) (cache : ℕ) : Type 0 where
  pub spare : HasSparePages p 18
  pub part : p.part < 2 ^ 16
  pub chains : HasChains p.pages
  pub height : ℕ
  pub nodes : List ℕ
  pub items : List Item
  pub index : IsIndex p.pages (root_of p.pages cache) height nodes items
  pub few : length items ≤ p.max_rows
