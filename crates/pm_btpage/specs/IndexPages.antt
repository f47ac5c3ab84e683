-- An index page: a leaf or an inner page of a tree.
--
--   offset  size  field
--        0     8  the page's name
--        8     1  the kind: 2 of a leaf, 3 of an inner page
--        9     1  zero
--       10     2  count: how many items there are
--       12     4  zero
--       16     8  the link: of a leaf the index of the next leaf, below 2^32;
--                 of an inner page its first child's name
--       24     8  zero
--       32    73  the first item: key length 1, key padded with zeros to 64, word 8
--      105    73  the second item, and so on; after the last all is zero
--
-- An item's word is in a leaf the link of the key's row, in an inner page the name of the child
-- with the keys from the item's key on and below the next item's.
use Rattle.std.specs.Prelude.{◌≡◌, ℕ, ◌+◌, ◌-◌, ◌*◌, ◌/◌, ◌^◌, ◌<◌, ◌≤◌, ◌⊎◌, ◌==◌, Bool, true, false}
use Rattle.std.specs.Prelude.{List, [], length, map, take, drop, ◌∷◌, ◌++◌, slice_index, slice_index_or}
use Rattle.std.specs.List.{range_with_len}
use Rattle.std.specs.Ordering.{nat_cmp}
use Rattle.std.specs.declared.cmp.Ordering.TheVariants.{Less}
use Rattle.std.specs.Cmp.Lexicographic.{slice_cmp}
use Rattle.pm_types.specs.PageSizes.{IsPageSize}
use Rattle.pm_types.specs.declared.limits.TheConstants.{KEY_MAX}
use Rattle.pm_types.specs.declared.page_id.PageId.{PageId}
use Rattle.pm_types.specs.Fields.{bytes_at, u16_at, u64_at, AreZero}
use Rattle.pm_types.specs.declared.head.TheConstants.{KIND_AT}
use Rattle.pm_btpage.specs.declared.layout.TheConstants.{LEAF_KIND, INNER_KIND, COUNT_AT, LINK_AT}
use Rattle.pm_btpage.specs.declared.layout.TheConstants.{LINK_END, ITEMS_AT, ITEM_LEN, WORD_IN_ITEM}

-- a key with its word
pub record Item : Type 0 where
  pub key : List ℕ
  pub word : ℕ

-- where an item stands
abbrev pub offset_of : ℕ → ℕ
offset_of i = ITEMS_AT + ITEM_LEN * i

-- how many items a page of this size has at most
abbrev pub capacity_of : ℕ → ℕ
capacity_of size = (size - ITEMS_AT) / ITEM_LEN

-- how many items the page has
abbrev pub count_of : List ℕ → ℕ
count_of page = u16_at page COUNT_AT

-- how long an item's key is
abbrev pub key_len_at : List ℕ → ℕ → ℕ
key_len_at page i = slice_index page (offset_of i)

-- an item of the page
abbrev pub item_at : List ℕ → ℕ → Item
item_at page i = record {
  key = bytes_at page (offset_of i + 1) (key_len_at page i);
  word = u64_at page (offset_of i + WORD_IN_ITEM);
}

-- the items of the page
abbrev pub items_of : List ℕ → List Item
items_of page = map (item_at page) (range_with_len 0 (count_of page))

-- what an index page says: its name, whether it is a leaf, its link, and its items
pub record IndexPage : Type 0 where
  pub id : PageId
  pub leaf : Bool
  pub link : ℕ
  pub items : List Item

-- what these bytes say
abbrev pub index_of : List ℕ → IndexPage
index_of page = record {
  id = record { 0 = u64_at page 0 };
  leaf = slice_index page KIND_AT == LEAF_KIND;
  link = u64_at page LINK_AT;
  items = items_of page;
}

-- what it says with this link, and else as it is
abbrev pub with_link : IndexPage → ℕ → IndexPage
with_link page link = record page { link = link }

-- what it says with these items, and else as it is
abbrev pub with_items : IndexPage → List Item → IndexPage
with_items page items = record page { items = items }

-- a leaf of this name without items and without a next leaf
abbrev pub empty_leaf : PageId → IndexPage
empty_leaf id = record { id = id; leaf = true; link = 0; items = [] }

-- an inner page of this name with this first child and without items
abbrev pub empty_inner : PageId → PageId → IndexPage
empty_inner id first = record { id = id; leaf = false; link = first.0; items = [] }

-- one key is below another
abbrev pub IsBelow : List ℕ → List ℕ → Type 0
IsBelow a b = slice_cmp nat_cmp a b ≡ Less

-- the key of an item
abbrev pub key_in : List Item → ℕ → List ℕ
key_in items i = (slice_index_or items i (record { key = []; word = 0 })).key

-- the word of an item
abbrev pub word_in : List Item → ℕ → ℕ
word_in items i = (slice_index_or items i (record { key = []; word = 0 })).word

-- each key is below all that follow
abbrev pub IsRising : List Item → Type 0
IsRising items = (i j : ℕ) → i < j → j < length items → IsBelow (key_in items i) (key_in items j)

-- the kind, and the bytes that are zero
pub record HasHead (page : List ℕ) : Type 0 where
  pub kind : (slice_index page KIND_AT ≡ LEAF_KIND) ⊎ (slice_index page KIND_AT ≡ INNER_KIND)
  pub zero_9 : slice_index page 9 ≡ 0
  pub zero_12 : AreZero page 12 LINK_AT
  pub next : slice_index page KIND_AT ≡ LEAF_KIND → u64_at page LINK_AT < 2 ^ 32
  pub after_link : AreZero page LINK_END ITEMS_AT

-- the item's key has a length that a key may have, and zeros up to its word
pub record IsItem (page : List ℕ) (i : ℕ) : Type 0 where
  pub some : 1 ≤ key_len_at page i
  pub short : key_len_at page i ≤ KEY_MAX
  pub padding : AreZero page (offset_of i + 1 + key_len_at page i) (offset_of i + WORD_IN_ITEM)

-- the items are within the page, their keys rise, and all after them is zero
pub record HasItems (page : List ℕ) : Type 0 where
  pub within : offset_of (count_of page) ≤ length page
  pub each : (i : ℕ) → i < count_of page → IsItem page i
  pub rising : IsRising (items_of page)
  pub after : AreZero page (offset_of (count_of page)) (length page)

-- an index page, with items or without
pub record IsIndexPage (page : List ℕ) : Type 0 where
  pub size : IsPageSize (length page)
  pub head : HasHead page
  pub items : HasItems page

-- the items with another before item i, or after the last
abbrev pub with_item : List Item → ℕ → Item → List Item
with_item items i item = take i items ++ item ∷ drop i items

-- the items without item i
abbrev pub without_item : List Item → ℕ → List Item
without_item items i = take i items ++ drop (i + 1) items

-- the items with this word in item i
abbrev pub with_word : List Item → ℕ → ℕ → List Item
with_word items i word = take i items ++ (record { key = key_in items i; word = word }) ∷ drop (i + 1) items

-- the key stands between those before place i and those from it on
pub record IsBetween (items : List Item) (key : List ℕ) (i : ℕ) : Type 0 where
  pub in_range : i ≤ length items
  pub below : (j : ℕ) → j < i → IsBelow (key_in items j) key
  pub above : (j : ℕ) → i ≤ j → j < length items → IsBelow key (key_in items j)

-- each key of the first items is below each of the others
abbrev pub AllBelow : List Item → List Item → Type 0
AllBelow low high = (i j : ℕ) → i < length low → j < length high → IsBelow (key_in low i) (key_in high j)
