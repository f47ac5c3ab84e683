-- Two pages below an inner page, of which one had too few items, over the pages of a partition.
use Rattle.std.specs.Prelude.{◌≡◌, ℕ, ◌/◌, ◌<◌, ◌⊎◌, ◌↔◌, Bool, false, List, Some, IsTrue, Result}
use Rattle.std.specs.Prelude.{IsErrOf, length}
use Rattle.pm_types.specs.declared.page_id.PageId.{PageId}
use Rattle.pm_types.specs.declared.fault.PageFault.{PageFault}
use Rattle.pm_types.specs.declared.fault.PageFault.TheVariants.{Failed, BadPage}
use Rattle.pm_types.specs.Counts.{HasRisen}
use Rattle.pm_types.specs.Ids.{page_id}
use Rattle.pm_btpage.specs.IndexPages.{items_of, capacity_of}
use Rattle.pm_meta.specs.declared.slots.MetaSlot.TheVariants.{Pages}
use Rattle.pm_pages.specs.PageLists.{IsReadable}
use Rattle.pm_pages.specs.Paged.{Paged, IsTold, IsInHand, IsBadPage, IsAfterGap}
use Rattle.pm_pages.specs.Edits.{EditsPages, IsNumberIn}
use Rattle.pm_tree_del.specs.declared.pairs.Pair.{Pair}
use Rattle.pm_tree_del.specs.declared.mends.Mend.{Mend}
use Rattle.pm_tree_del.specs.declared.mends.Mend.TheVariants.{Merged, Shared, Wrong}
use Rattle.pm_tree_del.specs.Neighbours.{AreNeighbours, IsMend}
use Rattle.pm_tree_del.specs.Pairs.{HasPair, IsPairOf, MayMend}
use Rattle.pm_tree_del.specs.Copies.{IsCopyOf}
use Rattle.pm_tree_del.specs.Given.{IsGiven}

-- one of the three pages
abbrev pub IsOfFamily : ℕ → Pair → ℕ → Type 0
IsOfFamily at pair j = (j ≡ pair.left) ⊎ (j ≡ pair.right) ⊎ (j ≡ at)

-- the left page and the one above have these bytes, and the right page was given back
pub record MergesPages (T : Type 0) (old new : Paged) (at : ℕ) (pair : Pair) (parent left : List ℕ)
    (most : ℕ) : Type 0 where
  pub edits : EditsPages T old new (λ j. (j ≡ 0) ⊎ IsOfFamily at pair j) most
  pub parent_now : new.pages at ≡ Some parent
  pub left_now : new.pages pair.left ≡ Some left
  pub gives : IsGiven old new pair.right

-- the three pages have these bytes
pub record SharesPages (T : Type 0) (old new : Paged) (at : ℕ) (pair : Pair)
    (parent left right : List ℕ) (most : ℕ) : Type 0 where
  pub edits : EditsPages T old new (IsOfFamily at pair) most
  pub parent_now : new.pages at ≡ Some parent
  pub left_now : new.pages pair.left ≡ Some left
  pub right_now : new.pages pair.right ≡ Some right

-- what was written, and whether the page above has too few items now
abbrev pub IsWritten : Type 0 → Paged → Paged → ℕ → Pair → List ℕ → List ℕ → List ℕ → ℕ → Mend → Bool → Type 0
IsWritten T old new at pair parent left right most Merged few =
    MergesPages T old new at pair parent left most
    × (IsTrue few ↔ (length (items_of parent) < capacity_of (length parent) / 2))
IsWritten T old new at pair parent left right most Shared few =
    SharesPages T old new at pair parent left right most × (few ≡ false)
IsWritten T old new at pair parent left right most Wrong few = ⊥

-- the bytes of the three pages
pub record IsFamily (p : Paged) (at : ℕ) (pair : Pair) (parent left right : List ℕ) : Type 0 where
  pub parent_is : IsCopyOf p at parent
  pub left_is : IsCopyOf p pair.left left
  pub right_is : IsCopyOf p pair.right right

-- what was made of the three pages with these bytes
pub record MendsCopies (T : Type 0) (old new : Paged) (at : ℕ) (pair : Pair)
    (parent left right : List ℕ) (most : ℕ) (few : Bool) : Type 0 where
  pub parent' : List ℕ
  pub left' : List ℕ
  pub right' : List ℕ
  pub mend : Mend
  pub is : IsMend parent left right pair.place parent' left' right' mend
  pub sizes : (length parent' ≡ length parent) × (length left' ≡ length left) × (length right' ≡ length right)
  pub written : IsWritten T old new at pair parent' left' right' most mend few

-- a pair was mended: these were the bytes of the three pages
pub record MendsPair (T : Type 0) (old new : Paged) (at : ℕ) (pair : Pair) (few : Bool) : Type 0 where
  pub parent : List ℕ
  pub left : List ℕ
  pub right : List ℕ
  pub parent_is : IsTold T old at → old.pages at ≡ Some parent
  pub left_is : IsTold T old pair.left → old.pages pair.left ≡ Some left
  pub right_is : IsTold T old pair.right → old.pages pair.right ≡ Some right
  pub parent_size : length parent ≡ old.page_size
  pub left_size : length left ≡ old.page_size
  pub right_size : length right ≡ old.page_size
  pub left_reads : IsReadable left
  pub right_reads : IsReadable right
  pub asked : (j : ℕ) → IsOfFamily at pair j → IsTrue (new.asked j)
  pub known : (j : ℕ) → IsOfFamily at pair j → IsTrue (new.known j)
  pub mends : MendsCopies T old new at pair parent left right 1 few

-- child i of an inner page, which has this index, was mended with the one beside it
pub record MendsChild (T : Type 0) (old new : Paged) (count at i child : ℕ) (few : Bool) : Type 0 where
  pub pair : Pair
  pub may : MayMend pair count at child
  pub page : List ℕ
  pub page_is : old.pages at ≡ Some page
  pub pair_of : IsPairOf page i pair
  pub mends : MendsPair T old new at pair few

-- what is wrong with a page below which a child was to be mended: it isn't an inner page with two children, its
-- children at this place are no two pages of the partition of which one is that child, or they don't stand side
-- by side there
abbrev pub IsWrongFor : Paged → ℕ → List ℕ → ℕ → ℕ → Type 0
IsWrongFor p at page i child = (HasPair page i → ⊥)
    ⊎ ((pair : Pair) × IsPairOf page i pair
    × ((count : ℕ) × IsNumberIn p Pages count × (MayMend pair count at child → ⊥)))
    ⊎ ((pair : Pair) × IsPairOf page i pair × (left : List ℕ) × (right : List ℕ)
    × IsInHand p pair.left left × IsInHand p pair.right right
    × (AreNeighbours page left right pair.place → ⊥))

-- a page that is at hand, and has this name, is wrong so; no page was changed
pub record HasNoPair (T : Type 0) (old new : Paged) (id : PageId) : Type 0 where
  pub at : ℕ
  pub name : id ≡ page_id new.part at
  pub page : List ℕ
  pub in_hand : IsInHand new at page
  pub i : ℕ
  pub child : ℕ
  pub wrong : IsWrongFor new at page i child
  pub same : (j : ℕ) → IsTold T old j → new.pages j ≡ old.pages j

-- a call of the disk failed, a page is bad, the one before a page that is given back isn't there, or a page has
-- no pair that can be mended
pub record HasMendCause {R : Type 0} (T : Type 0) (old new : Paged) (result : Result R PageFault) : Type 0 where
  pub failed : IsErrOf result Failed → HasRisen old.faults new.faults
  pub bad : (id : PageId) → IsErrOf result (BadPage id)
      → ((i : ℕ) × IsBadPage T old i id) ⊎ ((i : ℕ) × IsAfterGap T old i id) ⊎ HasNoPair T old new id
