-- An inner page that takes a new child.
use Rattle.std.specs.Prelude.{◌≡◌, ◌≢◌, ℕ, ◌+◌, ◌<◌, ◌≤◌, ◌⊎◌, false, List, [], ◌∷◌, ◌++◌, length, None}
use Rattle.pm_types.specs.Ids.{page_id}
use Rattle.pm_btpage.specs.declared.layout.TheConstants.{INNER_KIND}
use Rattle.pm_btpage.specs.IndexPages.{Item, IndexPage, items_of, with_items, with_item, capacity_of}
use Rattle.pm_btpage.specs.IndexPages.{IsBetween, IsIndexPage}
use Rattle.pm_meta.specs.declared.slots.MetaSlot.TheVariants.{Pages}
use Rattle.pm_pages.specs.Rows.{page_count, kind_of}
use Rattle.pm_pages.specs.Trees.{index_in}
use Rattle.pm_pages.specs.Paged.{Paged, IsInHand}
use Rattle.pm_pages.specs.Edits.{EditsPages, HasMeta, IsNumberIn}
use Rattle.pm_tree.specs.declared.fits.Fit.{Fit}
use Rattle.pm_tree.specs.declared.fits.Fit.TheVariants.{Room, Full, Wrong}
use Rattle.pm_tree.specs.declared.put.Part.{Part}
use Rattle.pm_tree.specs.declared.put.Put.{Put}
use Rattle.pm_tree.specs.declared.put.Put.TheVariants.{Kept, Split}
use Rattle.pm_tree.specs.Nodes.{nodes_in}
use Rattle.pm_tree.specs.Puts.{IsSpare, half_of}
use Rattle.pm_pages.specs.SpareChains.{MovesSpare}
use Rattle.pm_tree.specs.Edits.{IsNode}
use Rattle.pm_tree.specs.Divisions.{KeepsNumbers}
use Rattle.pm_pages.specs.StoredPages.{KeepsMeta}

-- an inner page, whose keys before place i are below the key, and those from it on above
pub record IsParent (page key : List ℕ) (i : ℕ) : Type 0 where
  pub kind : kind_of page ≡ INNER_KIND
  pub well_made : IsIndexPage page
  pub between : IsBetween (items_of page) key i

-- whether a child from the key on has a place there, and whether there is room
abbrev pub IsFitOn : List ℕ → List ℕ → ℕ → Fit → Type 0
IsFitOn page key i Room = IsParent page key i × (length (items_of page) < capacity_of (length page))
IsFitOn page key i Full = IsParent page key i × (capacity_of (length page) ≤ length (items_of page))
IsFitOn page key i Wrong = IsParent page key i → ⊥

pub record IsFitIn (p : Paged) (at : ℕ) (key : List ℕ) (i : ℕ) (fit : Fit) : Type 0 where
  pub page : List ℕ
  pub in_hand : IsInHand p at page
  pub size : length page ≡ p.page_size
  pub is : IsFitOn page key i fit

-- an inner page that is at hand, where a child from the key on has a place
pub record IsParentAt (p : Paged) (at : ℕ) (key : List ℕ) (i : ℕ) : Type 0 where
  pub some : 1 ≤ at
  pub below : (n : ℕ) → IsNumberIn p Pages n → at < n
  pub page : List ℕ
  pub in_hand : IsInHand p at page
  pub size : length page ≡ p.page_size
  pub parent : IsParent page key i

-- the item of the new child
abbrev pub child_item : ℕ → Part → Item
child_item part_number part = record { key = part.from; word = (page_id part_number part.right).0 }

-- the inner page has the new child
pub record Grows (T : Type 0) (old new : Paged) (at i : ℕ) (part : Part) : Type 0 where
  pub says : IndexPage
  pub before : IsNode old at says
  pub inner : says.leaf ≡ false
  pub between : IsBetween says.items part.from i
  pub index : index_in (child_item old.part part).word ≡ part.right
  pub after : IsNode new at (with_items says (with_item says.items i (child_item old.part part)))
  pub edits : EditsPages T old new (λ j. j ≡ at) 0

-- The inner page was divided as it took the new child: one item went up, those before it stayed,
-- and those after it are in a new page, whose first child is that item's.
pub record Forks (T : Type 0) (old new : Paged) (at i : ℕ) (part forked : Part) : Type 0 where
  pub says : IndexPage
  pub before : IsNode old at says
  pub inner : says.leaf ≡ false
  pub between : IsBetween says.items part.from i
  pub index : index_in (child_item old.part part).word ≡ part.right
  pub low : List Item
  pub middle : Item
  pub high : List Item
  pub whole : with_item says.items i (child_item old.part part) ≡ low ++ (middle ∷ high)
  pub left_is : IsNode new at (with_items says low)
  pub right_is : IsNode new forked.right
      (record { id = page_id old.part forked.right; leaf = false; link = middle.word; items = high })
  pub from : forked.from ≡ middle.key
  pub levels : forked.levels ≡ part.levels + 1
  pub full : half_of old.page_size ≤ length low
  pub full_right : half_of old.page_size ≤ length high
  pub some : 1 ≤ forked.right
  pub below : (n : ℕ) → IsNumberIn new Pages n → forked.right < n
  pub other : forked.right ≢ at
  pub edits : EditsPages T old new (λ j. (j ≡ 0) ⊎ (j ≡ forked.right) ⊎ (j ≡ at)) 1
  pub meta : HasMeta new
  pub numbers : KeepsNumbers old new
  pub spare : T → IsSpare (nodes_in old.pages forked.right)
  pub added : T → (j : ℕ) → j < page_count new.pages → (j < page_count old.pages) ⊎ (j ≡ forked.right)
  pub moves : T → MovesSpare old.pages new.pages (forked.right ∷ []) []
  pub meta_passes : T → KeepsMeta old new

-- what became of the inner page
abbrev pub TakesChild : Type 0 → Paged → Paged → ℕ → ℕ → Part → Put → Type 0
TakesChild T old new at i part (Kept was) = (was ≡ None) × Grows T old new at i part
TakesChild T old new at i part (Split forked) = Forks T old new at i part forked
