-- Pages that may appear in a partition's file and change nothing.
use Rattle.std.specs.Prelude.{◌≡◌, ℕ, ◌<◌, List, Some, IsSome}
use Rattle.pm_pages.specs.Rows.{Partition, page_count}

-- Pages appear at the page count and above it, and nothing else happens. Without a meta page the
-- page count is 0: any page but the first may appear.
pub record GrowsAbove (was now : Partition) : Type 0 where
  pub meta : now 0 ≡ was 0
  pub below : (i : ℕ) → i < page_count was → now i ≡ was i

-- a partition with a meta page, each of whose pages is there later too
pub record LosesNone (was now : Partition) : Type 0 where
  pub some : IsSome (was 0)
  pub stays : (i : ℕ) (page : List ℕ) → was i ≡ Some page → now i ≡ Some page
