-- A partition whose pages pass their checks, from which no call answers a bad page.
use Rattle.std.specs.Prelude.{ℕ, ◌<◌, ◌≤◌}
use Rattle.pm_pages.specs.Chains.{times}
use Rattle.pm_pages.specs.Paged.{Paged}
use Rattle.pm_tree.specs.Nodes.{nodes_in, nodes_under, IsTreeIn}
use Rattle.pm_tree.specs.Puts.{half_of}

-- at page `at` stands a tree of fewer levels than so many, each page once, which has an item
pub record HasTree (p : Paged) (limit at : ℕ) : Type 0 where
  pub height : ℕ
  pub few : height < limit
  pub least : ℕ
  pub some : 1 ≤ least
  pub most : least ≤ half_of p.page_size
  pub tree : IsTreeIn (nodes_in p.pages) height least at
  pub once : (j : ℕ) → times j (nodes_under (nodes_in p.pages) height at) ≤ 1
