-- Two children of an inner page that stand side by side.
use Rattle.std.specs.Prelude.{◌≡◌, ◌≢◌, ℕ, ◌+◌, ◌-◌, ◌<◌, ◌≤◌, ◌⊎◌, List, Option, None, Some, IsTrue, length}
use Rattle.pm_btpage.specs.declared.layout.TheConstants.{INNER_KIND}
use Rattle.pm_btpage.specs.IndexPages.{items_of, IsIndexPage}
use Rattle.pm_pages.specs.Rows.{kind_of}
use Rattle.pm_pages.specs.Trees.{child_of}
use Rattle.pm_meta.specs.declared.slots.MetaSlot.TheVariants.{Pages}
use Rattle.pm_pages.specs.Paged.{Paged, IsInHand}
use Rattle.pm_pages.specs.Edits.{IsNumberIn}
use Rattle.pm_tree_del.specs.declared.pairs.Pair.{Pair}

-- an inner page with two children at least, of which this is the number of one
pub record HasPair (page : List ℕ) (i : ℕ) : Type 0 where
  pub kind : kind_of page ≡ INNER_KIND
  pub some : 1 ≤ length (items_of page)
  pub in_range : i ≤ length (items_of page)

-- child i and the one before it, or, of the first child, the one after it
pub record IsPairOf (page : List ℕ) (i : ℕ) (pair : Pair) : Type 0 where
  pub kind : kind_of page ≡ INNER_KIND
  pub well_made : IsIndexPage page
  pub in_range : i ≤ length (items_of page)
  pub place : pair.place ≡ i - 1
  pub within : pair.place < length (items_of page)
  pub left : pair.left ≡ child_of page pair.place
  pub right : pair.right ≡ child_of page (pair.place + 1)

-- the pair of child i, or that there is none
abbrev pub IsPairOn : List ℕ → ℕ → Option Pair → Type 0
IsPairOn page i None = HasPair page i → ⊥
IsPairOn page i (Some pair) = IsPairOf page i pair

-- the same of a page that is at hand
pub record IsPairIn (p : Paged) (at i : ℕ) (pair : Option Pair) : Type 0 where
  pub page : List ℕ
  pub in_hand : IsInHand p at page
  pub size : length page ≡ p.page_size
  pub is : IsPairOn page i pair

-- both are pages of a partition of so many pages, other than page `at` and than each other, and one of them is
-- this child
pub record MayMend (pair : Pair) (count at child : ℕ) : Type 0 where
  pub left_some : 1 ≤ pair.left
  pub left_below : pair.left < count
  pub right_some : 1 ≤ pair.right
  pub right_below : pair.right < count
  pub left_other : pair.left ≢ at
  pub right_other : pair.right ≢ at
  pub two : pair.left ≢ pair.right
  pub one_is : (pair.left ≡ child) ⊎ (pair.right ≡ child)

-- page `at` is at hand, this is the pair of one of its children, which was asked for, and it may be mended
pub record CanMend (p : Paged) (at : ℕ) (pair : Pair) : Type 0 where
  pub some : 1 ≤ at
  pub page : List ℕ
  pub in_hand : IsInHand p at page
  pub i : ℕ
  pub is : IsPairOf page i pair
  pub count : ℕ
  pub number : IsNumberIn p Pages count
  pub child : ℕ
  pub asked : IsTrue (p.asked child)
  pub may : MayMend pair count at child
