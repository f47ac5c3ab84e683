-- How the pages of a partition are laid out, whatever the items of its indexes are.
use Rattle.std.specs.Prelude.{◌≡◌, ℕ, ◌+◌, ◌<◌, ◌≤◌, ◌==◌, if◌then◌else◌, List}
use Rattle.std.specs.List.{flat_map, range_with_len}
use Rattle.pm_types.specs.declared.limits.TheConstants.{CACHES}
use Rattle.pm_btpage.specs.IndexPages.{Item}
use Rattle.pm_data.specs.declared.layout.TheConstants.{DATA_KIND}
use Rattle.pm_pages.specs.Rows.{Partition, page_at, page_count, kind_of}
use Rattle.pm_pages.specs.Chains.{times, reuse_chain}
use Rattle.pm_pages.specs.Trees.{root_of}
use Rattle.pm_pages.specs.SpareChains.{HasSpare}
use Rattle.pm_tree.specs.Indexes.{IsIndex}
use Rattle.pm_free.specs.Placed.{HasChains}

-- the lists of all caches, joined
abbrev pub joined : (ℕ → List ℕ) → List ℕ
joined lists = flat_map lists (range_with_len 0 CACHES)

-- 1 for a data page, 0 for any other
abbrev pub is_data : Partition → ℕ → ℕ
is_data pages j = if kind_of (page_at pages j) == DATA_KIND then 1 else 0

-- Each cache has an index with these items, and the chains of the buckets and the reuse chain are right. Each
-- page but the first stands once: in the index of a cache, as a data page in a bucket's chain, or in the reuse
-- chain.
pub record IsLaidOut (pages : Partition) (items : ℕ → List Item) : Type 0 where
  pub some : 1 ≤ page_count pages
  pub heights : ℕ → ℕ
  pub nodes : ℕ → List ℕ
  pub indexes : (cache : ℕ) → cache < CACHES
      → IsIndex pages (root_of pages cache) (heights cache) (nodes cache) (items cache)
  pub chains : HasChains pages
  pub spare : HasSpare pages
  pub first : times 0 (joined nodes) ≡ 0
  pub each : (j : ℕ) → 1 ≤ j → j < page_count pages
      → times j (joined nodes) + is_data pages j + times j (reuse_chain pages) ≡ 1
