-- Two pages that stand side by side below an inner page, and what is made of them where one has too few items.
use Rattle.std.specs.Prelude.{◌≡◌, ℕ, ◌+◌, ◌/◌, ◌<◌, ◌≤◌, ◌⊎◌, Bool, true, false, List, ◌∷◌, ◌++◌, length}
use Rattle.pm_btpage.specs.declared.layout.TheConstants.{LEAF_KIND, INNER_KIND}
use Rattle.pm_btpage.specs.IndexPages.{Item, IndexPage, items_of, index_of, key_in, word_in, with_items}
use Rattle.pm_btpage.specs.IndexPages.{with_item, without_item, capacity_of, AllBelow, IsBelow}
use Rattle.pm_btpage.specs.IndexPages.{IsIndexPage}
use Rattle.pm_pages.specs.Rows.{kind_of}
use Rattle.pm_tree_del.specs.declared.mends.Mend.{Mend}
use Rattle.pm_tree_del.specs.declared.mends.Mend.TheVariants.{Merged, Shared, Wrong}

-- The items of both pages in one row. Of inner pages the key that parts them stands between, with the right
-- one's first child.
abbrev pub joined_items : Bool → IndexPage → IndexPage → List ℕ → List Item
joined_items true left right key = left.items ++ right.items
joined_items false left right key = left.items ++ (record { key = key; word = right.link } ∷ right.items)

-- the link of the page that has both pages' items: of leaves that of the right one
abbrev pub joined_link : Bool → IndexPage → IndexPage → ℕ
joined_link true left right = right.link
joined_link false left right = left.link

-- what the left page says once it has the items of both
abbrev pub joined : IndexPage → IndexPage → List ℕ → IndexPage
joined left right key =
    record left { link = joined_link left.leaf left right; items = joined_items left.leaf left right key }

-- the items with this key in item i
abbrev pub with_key : List Item → ℕ → List ℕ → List Item
with_key items i key = with_item (without_item items i) i (record { key = key; word = word_in items i })

-- both are pages of a tree, and of one kind
pub record AreOfOneKind (left right : List ℕ) : Type 0 where
  pub kind : (kind_of left ≡ LEAF_KIND) ⊎ (kind_of left ≡ INNER_KIND)
  pub same : kind_of right ≡ kind_of left

-- the left page's keys are below the right one's, and of inner pages the key that parts them stands between
abbrev pub AreApart : Bool → List Item → List Item → List ℕ → Type 0
AreApart true left right key = AllBelow left right
AreApart false left right key =
    ((j : ℕ) → j < length left → IsBelow (key_in left j) key)
    × ((j : ℕ) → j < length right → IsBelow key (key_in right j))

-- the key may stand in item i: it is above the keys before that item and below those after it
pub record HasPlaceFor (items : List Item) (i : ℕ) (key : List ℕ) : Type 0 where
  pub below : (j : ℕ) → j < i → IsBelow (key_in items j) key
  pub above : (j : ℕ) → i + 1 ≤ j → j < length items → IsBelow key (key_in items j)

-- the key parts the items of two leaves
abbrev pub Parts : List Item → List Item → List ℕ → Type 0
Parts left right key =
    ((j : ℕ) → j < length left → IsBelow (key_in left j) key)
    × ((j : ℕ) → j < length right → IsBelow (key_in right j) key → ⊥)

-- The pages stand side by side below the parent, where the key of its item `place` parts them: they are of one
-- kind, their keys rise from the one to the other, and each key but the first could part them as well.
pub record AreNeighbours (parent left right : List ℕ) (place : ℕ) : Type 0 where
  pub kind : AreOfOneKind left right
  pub apart : AreApart (index_of left).leaf (items_of left) (items_of right) (key_in (items_of parent) place)
  pub within : (k : ℕ) → 0 < k → k
      < length (joined_items (index_of left).leaf (index_of left) (index_of right)
      (key_in (items_of parent) place))
      → HasPlaceFor (items_of parent) place
      (key_in (joined_items (index_of left).leaf (index_of left) (index_of right)
      (key_in (items_of parent) place)) k)

-- the left page has the items of both, and the parent has the right one no more
pub record Merges (parent left right : List ℕ) (place : ℕ) (parent' left' : List ℕ) : Type 0 where
  pub kind : AreOfOneKind left right
  pub apart : AreApart (index_of left).leaf (items_of left) (items_of right) (key_in (items_of parent) place)
  pub left_page : IsIndexPage left'
  pub left_is : index_of left' ≡ joined (index_of left) (index_of right) (key_in (items_of parent) place)
  pub parent_page : IsIndexPage parent'
  pub parent_is : index_of parent' ≡ with_items (index_of parent) (without_item (items_of parent) place)

-- The pages share their items anew: in one row these are what they were, and this key of the parent parts them.
-- Where neither page lacked more than one item, neither has too few.
pub record Shares (parent left right : List ℕ) (place : ℕ) (parent' left' right' : List ℕ) : Type 0 where
  pub kind : AreOfOneKind left right
  pub apart : AreApart (index_of left).leaf (items_of left) (items_of right) (key_in (items_of parent) place)
  pub left_page : IsIndexPage left'
  pub right_page : IsIndexPage right'
  pub parent_page : IsIndexPage parent'
  pub key : List ℕ
  pub parent_is : index_of parent' ≡ with_items (index_of parent) (with_key (items_of parent) place key)
  pub left_is : index_of left' ≡ with_items (index_of left) (items_of left')
  pub right_id : (index_of right').id ≡ (index_of right).id
  pub right_leaf : (index_of right').leaf ≡ (index_of right).leaf
  pub right_link : (index_of left).leaf ≡ true → (index_of right').link ≡ (index_of right).link
  pub items : joined_items (index_of left).leaf (index_of left') (index_of right') key
      ≡ joined_items (index_of left).leaf (index_of left) (index_of right) (key_in (items_of parent) place)
  pub parts : (index_of left).leaf ≡ true
      → Parts (items_of left) (items_of right) (key_in (items_of parent) place)
      → Parts (items_of left') (items_of right') key
  pub full : capacity_of (length left) / 2 ≤ length (items_of left) + 1
      → capacity_of (length left) / 2 ≤ length (items_of right) + 1
      → (capacity_of (length left) / 2 ≤ length (items_of left'))
      × (capacity_of (length left) / 2 ≤ length (items_of right'))

-- what was made of two neighbours
abbrev pub IsMend : List ℕ → List ℕ → List ℕ → ℕ → List ℕ → List ℕ → List ℕ → Mend → Type 0
IsMend parent left right place parent' left' right' Merged = Merges parent left right place parent' left'
IsMend parent left right place parent' left' right' Shared = Shares parent left right place parent' left' right'
IsMend parent left right place parent' left' right' Wrong = AreNeighbours parent left right place → ⊥
