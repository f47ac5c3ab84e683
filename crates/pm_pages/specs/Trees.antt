-- The tree of a cache: inner pages above leaves, whose items are the cache's rows by rising key.
use Rattle.pm_types.specs.declared.limits.TheConstants.{CACHES}
use Rattle.std.specs.Prelude.{◌≡◌, ◌≢◌, ℕ, zero, suc, ◌+◌, ◌/◌, ◌<◌, ◌≤◌, List, [], ◌∷◌, if◌then◌else◌}
use Rattle.std.specs.Prelude.{◌==◌, map, length, All, Any}
use Rattle.std.specs.List.{flat_map, slice_index_or}
use Rattle.pm_types.specs.Ids.{index_of_id}
use Rattle.pm_btpage.specs.declared.layout.TheConstants.{LEAF_KIND, INNER_KIND}
use Rattle.pm_btpage.specs.IndexPages.{Item, items_of, index_of, key_in, capacity_of, IsBelow, IsRising}
use Rattle.pm_meta.specs.declared.slots.MetaSlot.TheVariants.{Root}
use Rattle.pm_pages.specs.declared.row.Row.{Row}
use Rattle.pm_pages.specs.declared.limits.TheConstants.{LEVELS_MAX}
use Rattle.pm_pages.specs.Rows.{Partition, page_at, number_in, kind_of}

-- the index in the name of a page that a word is
abbrev pub index_in : ℕ → ℕ
index_in word = index_of_id (record { 0 = word })

-- the children of an inner page: its first one, and those of its items
abbrev pub children_of : List ℕ → List ℕ
children_of page = index_in (index_of page).link ∷ map (λ item. index_in item.word) (items_of page)

-- child i of an inner page; 0 is the first
abbrev pub child_of : List ℕ → ℕ → ℕ
child_of page i = slice_index_or (children_of page) i 0

-- how many inner pages first children lead through from this page on, as far as so many
unfoldable pub levels_from : Partition → ℕ → ℕ → ℕ
levels_from pages zero at = 0
levels_from pages (suc limit) at =
    if kind_of (page_at pages at) == INNER_KIND
    then 1 + levels_from pages limit (child_of (page_at pages at) 0)
    else 0

-- the leaves below a page that has so many levels of inner pages, from left to right
abbrev pub leaves_below : Partition → ℕ → ℕ → List ℕ
leaves_below pages zero at = at ∷ []
leaves_below pages (suc levels) at = flat_map (leaves_below pages levels) (children_of (page_at pages at))

-- the items of these leaves, joined
abbrev pub items_in : Partition → List ℕ → List Item
items_in pages leaves = flat_map (λ i. items_of (page_at pages i)) leaves

-- the items of the leaves below such a page
abbrev pub items_below : Partition → ℕ → ℕ → List Item
items_below pages levels at = items_in pages (leaves_below pages levels at)

-- its pages, itself the first
abbrev pub nodes_below : Partition → ℕ → ℕ → List ℕ
nodes_below pages zero at = at ∷ []
nodes_below pages (suc levels) at = at ∷ flat_map (nodes_below pages levels) (children_of (page_at pages at))

-- a page of this kind with so many items at least
pub record IsNode (kind least : ℕ) (page : List ℕ) : Type 0 where
  pub kind_is : kind_of page ≡ kind
  pub full : least ≤ length (items_of page)

-- the keys below child i are from its item's key on and below the next item's; the first child has no item
pub record IsKeyWithin (items : List Item) (i : ℕ) (key : List ℕ) : Type 0 where
  pub from : (j : ℕ) → i ≡ j + 1 → IsBelow key (key_in items j) → ⊥
  pub below : i < length items → IsBelow key (key_in items i)

abbrev pub IsWithin : List Item → ℕ → Item → Type 0
IsWithin items i item = IsKeyWithin items i item.key

-- the keys below each child lie within its bounds
abbrev pub KeepsBounds : List Item → (ℕ → List Item) → Type 0
KeepsBounds items below_child = (i : ℕ) → i ≤ length items → All (IsWithin items i) (below_child i)

-- a tree with so many levels of inner pages; its root has so many items at least, every other page
-- half of what it has room for
abbrev pub IsTree : Partition → ℕ → ℕ → ℕ → Type 0
IsTree pages zero least at = IsNode LEAF_KIND least (page_at pages at)
IsTree pages (suc levels) least at =
    let page = page_at pages at in
    IsNode INNER_KIND least page
    × All (IsTree pages levels (capacity_of (length page) / 2)) (children_of page)
    × KeepsBounds (items_of page) (λ i. items_below pages levels (child_of page i))

-- a tree with so many levels, whatever its items
abbrev pub IsSomeTree : Partition → ℕ → ℕ → Type 0
IsSomeTree pages levels at = (least : ℕ) × IsTree pages levels least at

-- the first of these pages, 0 where there is none
abbrev pub first_of : List ℕ → ℕ
first_of [] = 0
first_of (i ∷ indexes) = i

-- each leaf names the next, and the last one 0
abbrev pub AreLinked : Partition → List ℕ → Type 0
AreLinked pages [] = Unit {0}
AreLinked pages (leaf ∷ leaves) = ((index_of (page_at pages leaf)).link ≡ first_of leaves)
    × AreLinked pages leaves

-- the root of a cache's tree, 0 where it has none
abbrev pub root_of : Partition → ℕ → ℕ
root_of pages cache = number_in pages (Root cache)

-- how many levels of inner pages the tree of a cache has
abbrev pub levels_of : Partition → ℕ → ℕ
levels_of pages cache = levels_from pages LEVELS_MAX (root_of pages cache)

-- the pages of the tree of a cache
abbrev pub nodes_of : Partition → ℕ → List ℕ
nodes_of pages cache =
    if root_of pages cache == 0 then [] else nodes_below pages (levels_of pages cache) (root_of pages cache)

-- each root is that of a tree, whatever its items
abbrev pub AreTrees : Partition → Type 0
AreTrees pages = (cache : ℕ) → cache < CACHES → root_of pages cache ≢ 0
    → IsSomeTree pages (levels_of pages cache) (root_of pages cache)

-- the row is of this cache, and this is its item: its key with its name
pub record IsItemOf (cache : ℕ) (item : Item) (row : Row) : Type 0 where
  pub cache_is : row.cache ≡ cache
  pub key : item.key ≡ row.key
  pub word : item.word ≡ row.link.0

-- the items rise, and they are those of the rows of a cache, and no others
pub record ListsRows (rows : List Row) (cache : ℕ) (items : List Item) : Type 0 where
  pub rising : IsRising items
  pub all : All (λ row. row.cache ≡ cache → Any (λ item. IsItemOf cache item row) items) rows
  pub only : All (λ item. Any (IsItemOf cache item) rows) items

-- a tree of not too many levels, which lists the rows of a cache, and whose leaves are linked
pub record IsTreeOf (pages : Partition) (rows : List Row) (cache levels root : ℕ) : Type 0 where
  pub few : levels < LEVELS_MAX
  pub tree : IsTree pages levels 1 root
  pub lists : ListsRows rows cache (items_below pages levels root)
  pub linked : AreLinked pages (leaves_below pages levels root)

-- a cache without rows has no tree, and every other cache a tree that lists its rows
pub record HasTree (pages : Partition) (rows : List Row) (cache : ℕ) : Type 0 where
  pub none : All (λ row. row.cache ≢ cache) rows → root_of pages cache ≡ 0
  pub some : Any (λ row. row.cache ≡ cache) rows
      → IsTreeOf pages rows cache (levels_of pages cache) (root_of pages cache)
