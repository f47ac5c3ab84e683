-- Pages from which a removal answers no bad page.
use Rattle.std.specs.Prelude.{◌≡◌, ℕ, ◌<◌, List, Some, length}
use Rattle.pm_pages.specs.Rows.{page_count}
use Rattle.pm_pages.specs.Paged.{Paged}
use Rattle.pm_tree_del.specs.declared.pairs.Pair.{Pair}
use Rattle.pm_tree_del.specs.Neighbours.{AreNeighbours}
use Rattle.pm_tree_del.specs.Pairs.{HasPair, IsPairOf, MayMend}

-- the two pages stand side by side below page `at`
pub record StandSo (p : Paged) (at : ℕ) (pair : Pair) : Type 0 where
  pub each : (parent left right : List ℕ)
      → p.pages at ≡ Some parent → p.pages pair.left ≡ Some left → p.pages pair.right ≡ Some right
      → length parent ≡ p.page_size → length left ≡ p.page_size → length right ≡ p.page_size
      → AreNeighbours parent left right pair.place

-- page `at` is an inner page with two children at least, and child i, which has this index, and the
-- one beside it can be mended
pub record CanBeMended (p : Paged) (count at i child : ℕ) : Type 0 where
  pub below : at < page_count p.pages
  pub has : (page : List ℕ) → p.pages at ≡ Some page → HasPair page i
  pub may : (page : List ℕ) → p.pages at ≡ Some page → (pair : Pair) → IsPairOf page i pair
      → MayMend pair count at child
  pub stand : (page : List ℕ) → p.pages at ≡ Some page → (pair : Pair) → IsPairOf page i pair
      → StandSo p at pair
