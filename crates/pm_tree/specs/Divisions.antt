-- A page of a tree divided into two.
use Rattle.std.specs.Prelude.{◌≡◌, ◌≢◌, ℕ, ◌+◌, ◌<◌, ◌≤◌, ◌⊎◌, Bool, true, false, List, [], ◌∷◌, length}
use Rattle.std.specs.Prelude.{take, drop, Option, None, Some, IsTrue}
use Rattle.pm_types.specs.Ids.{page_id}
use Rattle.pm_types.specs.declared.page_id.PageId.{PageId}
use Rattle.pm_btpage.specs.IndexPages.{IndexPage, items_of, index_of, with_items, with_link, empty_leaf}
use Rattle.pm_btpage.specs.IndexPages.{capacity_of, IsIndexPage}
use Rattle.pm_meta.specs.declared.slots.MetaSlot.{MetaSlot}
use Rattle.pm_meta.specs.declared.slots.MetaSlot.TheVariants.{Reuse, Pages}
use Rattle.pm_meta.specs.MetaPages.{IsSlot}
use Rattle.pm_pages.specs.Rows.{page_count}
use Rattle.pm_pages.specs.Paged.{Paged, IsInHand}
use Rattle.pm_pages.specs.Edits.{EditsPages, HasMeta, IsNumberIn}
use Rattle.pm_tree.specs.Nodes.{nodes_in}
use Rattle.pm_tree.specs.Puts.{IsSpare}
use Rattle.pm_pages.specs.SpareChains.{MovesSpare}
use Rattle.pm_pages.specs.SoundPages.{CanTake}
use Rattle.pm_pages.specs.StoredPages.{KeepsStored, KeepsMeta}
use Rattle.pm_tree.specs.Edits.{blank, IsNode}
use Rattle.pm_tree.specs.Places.{HasGap}

-- the page count didn't fall, and every number but that and the reuse chain's first page is as it was
pub record KeepsNumbers (old new : Paged) : Type 0 where
  pub count : (n : ℕ) → IsNumberIn old Pages n → (m : ℕ) × IsNumberIn new Pages m × (n ≤ m)
  pub others : (slot : MetaSlot) → IsSlot slot → slot ≢ Reuse → slot ≢ Pages → (n : ℕ)
      → IsNumberIn old slot n → IsNumberIn new slot n

-- a page without a first child is a leaf
abbrev pub is_leaf_blank : Option PageId → Bool
is_leaf_blank None = true
is_leaf_blank (Some child) = false

-- page `at`, with these bytes, can be divided: its items from one on go into a new page, those up
-- to another stay
pub record CanDivide (p : Paged) (at : ℕ) (page : List ℕ) (first : Option PageId) (start end : ℕ) : Type 0 where
  pub some : 1 ≤ at
  pub below : (n : ℕ) → IsNumberIn p Pages n → at < n
  pub in_hand : IsInHand p at page
  pub well_made : IsIndexPage page
  pub size : length page ≡ p.page_size
  pub leaf : (index_of page).leaf ≡ is_leaf_blank first
  pub start_in : start ≤ length (items_of page)
  pub end_in : end ≤ length (items_of page)

-- the page was divided, and page `right` is the new one
pub record Divides (T : Type 0) (old new : Paged) (at : ℕ) (page : List ℕ) (first : Option PageId)
    (start end right : ℕ) : Type 0 where
  pub some : 1 ≤ right
  pub below : (n : ℕ) → IsNumberIn new Pages n → right < n
  pub other : right ≢ at
  pub edits : EditsPages T old new (λ j. (j ≡ 0) ⊎ (j ≡ right) ⊎ (j ≡ at)) 1
  pub left_is : IsNode new at (with_items (index_of page) (take end (items_of page)))
  pub right_is : IsNode new right
      (with_items (blank (page_id old.part right) first) (drop start (items_of page)))
  pub meta : HasMeta new
  pub numbers : KeepsNumbers old new
  pub spare : T → IsSpare (nodes_in old.pages right)
  pub added : T → (j : ℕ) → j < page_count new.pages → (j < page_count old.pages) ⊎ (j ≡ right)
  pub moves : T → MovesSpare old.pages new.pages (right ∷ []) []
  pub meta_passes : T → KeepsMeta old new

-- What a put changed, whatever the pages say: at most so many were asked for that weren't before, and no others
-- changed than were asked for. At most so many were taken, and where this was given pages that pass
-- their checks do so still.
pub record PutsPages (T : Type 0) (old new : Paged) (most : ℕ) (given : Type 0) : Type 0 where
  pub edits : EditsPages T old new (λ j. IsTrue (new.asked j)) most
  pub meta : HasMeta new
  pub numbers : KeepsNumbers old new
  pub takes : T → (limit left : ℕ) → CanTake limit old (most + left) → CanTake limit new left
  pub passes : T → given → KeepsStored old new most

-- a leaf was divided, and the new one stands after it
pub record PartsLeaf (T : Type 0) (old new : Paged) (at : ℕ) (page : List ℕ) (cut right : ℕ) : Type 0 where
  pub some : 1 ≤ right
  pub below : (n : ℕ) → IsNumberIn new Pages n → right < n
  pub other : right ≢ at
  pub edits : EditsPages T old new (λ j. (j ≡ 0) ⊎ (j ≡ right) ⊎ (j ≡ at)) 1
  pub left_is : IsNode new at (with_link (with_items (index_of page) (take cut (items_of page))) right)
  pub right_is : IsNode new right
      (with_link (with_items (empty_leaf (page_id old.part right)) (drop cut (items_of page)))
      (index_of page).link)
  pub meta : HasMeta new
  pub numbers : KeepsNumbers old new
  pub spare : T → IsSpare (nodes_in old.pages right)
  pub added : T → (j : ℕ) → j < page_count new.pages → (j < page_count old.pages) ⊎ (j ≡ right)
  pub moves : T → MovesSpare old.pages new.pages (right ∷ []) []
  pub meta_passes : T → KeepsMeta old new

-- a leaf that is at hand has no room for a key, which would stand before item i
pub record IsFullLeaf (p : Paged) (at : ℕ) (key : List ℕ) (i : ℕ) : Type 0 where
  pub some : 1 ≤ at
  pub below : (n : ℕ) → IsNumberIn p Pages n → at < n
  pub page : List ℕ
  pub in_hand : IsInHand p at page
  pub size : length page ≡ p.page_size
  pub gap : HasGap page key i
  pub full : capacity_of (length page) ≤ length (items_of page)

-- leaf `right` was put between leaf `at` and the leaf after that
pub record LinksLeaves (T : Type 0) (old new : Paged) (at right next : ℕ) : Type 0 where
  pub edits : EditsPages T old new (λ j. (j ≡ right) ⊎ (j ≡ at)) 0
  pub right_is : (says : IndexPage) → IsNode old right says → IsNode new right (with_link says next)
  pub left_is : (says : IndexPage) → IsNode old at says → IsNode new at (with_link says right)
