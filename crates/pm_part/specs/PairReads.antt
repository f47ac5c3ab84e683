-- What was read of a partition for the pairs of a cache. The pages are read one after the other,
-- and each is given up before the next, so that each has the bytes of the moment when it was read.
use Rattle.std.specs.Prelude.{◌≡◌, ◌≢◌, ℕ, zero, suc, ◌<◌, ◌≤◌, ◌⊎◌, List, [], ◌∷◌, ◌++◌, None}
use Rattle.pm_types.specs.declared.page_id.Link.{Link}
use Rattle.pm_btpage.specs.declared.layout.TheConstants.{LEAF_KIND, INNER_KIND}
use Rattle.pm_btpage.specs.IndexPages.{Item, items_of, index_of}
use Rattle.pm_data.specs.Rows.{row_value}
use Rattle.pm_meta.specs.declared.slots.MetaSlot.{MetaSlot}
use Rattle.pm_meta.specs.declared.slots.MetaSlot.TheVariants.{Root, Pages}
use Rattle.pm_meta.specs.MetaPages.{field_of}
use Rattle.pm_pages.specs.declared.limits.TheConstants.{LEVELS_MAX}
use Rattle.pm_pages.specs.Rows.{kind_of}
use Rattle.pm_pages.specs.Trees.{child_of}
use Rattle.pm_pages.specs.Paged.{Paged, IsInHand}
use Rattle.pm_tree.specs.Indexes.{as_link}
use Rattle.pm_tree.specs.Steps.{IsNoNode}
use Rattle.pm_part.specs.declared.spots.Spot.{Spot}
use Rattle.pm_part.specs.declared.pairs.Down.{Down}
use Rattle.pm_part.specs.declared.pairs.Down.TheVariants.{Leaf, Child, Other}
use Rattle.pm_part.specs.Reads.{ReadsPages}
use Rattle.pm_part.specs.Spots.{IsRowOn, LeadsTo}

-- a list of pairs: keys with their values
abbrev pub PairsList : Type 0
PairsList = List (List ℕ × List ℕ)

-- page i was at hand with these bytes, at a moment until which pages were only read
pub record WasRead (T : Type 0) (start : Paged) (i : ℕ) (page : List ℕ) : Type 0 where
  pub moment : Paged
  pub reads : ReadsPages T start moment
  pub in_hand : IsInHand moment i page

-- it holds also as seen from each moment since which pages were only read
abbrev pub SinceReads : Type 0 → Paged → (Paged → Type 0) → Type 0
SinceReads T old holds = (start : Paged) → ReadsPages T start old → holds start

-- pairs were appended, of which this holds
pub record AppendsPairs (was now : PairsList) (holds : PairsList → Type 0) : Type 0 where
  pub more : PairsList
  pub appended : now ≡ was ++ more
  pub are : holds more

-- this was the number in a slot of the meta page
pub record HadNumber (T : Type 0) (start : Paged) (slot : MetaSlot) (number : ℕ) : Type 0 where
  pub meta : List ℕ
  pub read : WasRead T start 0 meta
  pub is : number ≡ field_of meta slot

-- what a page is on the way to the first leaf
abbrev pub IsDownOn : List ℕ → Down → Type 0
IsDownOn page Leaf = kind_of page ≡ LEAF_KIND
IsDownOn page (Child child) = (kind_of page ≡ INNER_KIND) × (child ≡ child_of page 0)
IsDownOn page Other = IsNoNode page

-- what a page of the partition was, which has so many
pub record WasPage (T : Type 0) (start : Paged) (count at : ℕ) (down : Down) : Type 0 where
  pub some : 1 ≤ at
  pub below : at < count
  pub page : List ℕ
  pub read : WasRead T start at page
  pub is : IsDownOn page down

-- page 0 is of no tree, and a partition of so many pages has no page at its page count or past it
pub record IsNoPage (count at : ℕ) (down : Down) : Type 0 where
  pub other : down ≡ Other
  pub where_at : (at ≡ 0) ⊎ (count ≤ at)

-- what a page was, or that there is no such page
abbrev pub IsDown : Type 0 → Paged → ℕ → ℕ → Down → Type 0
IsDown T start count at down = IsNoPage count at down ⊎ WasPage T start count at down

-- From a root the first children of so many inner pages lead to page `at`, and the last of these is
-- page `from`. The root is named by the meta page, which is page 0.
abbrev pub LeadsDown : Type 0 → Paged → ℕ → ℕ → ℕ → ℕ → ℕ → Type 0
LeadsDown T start count root zero from at = (from ≡ 0) × (at ≡ root)
LeadsDown T start count root (suc n) from at = WasPage T start count from (Child at)
    × (before : ℕ) × LeadsDown T start count root n before from

-- the pair is this key with the value of its row, which stood at a spot
pub record ReadPair (T : Type 0) (start : Paged) (spot : Spot) (cache : ℕ) (key : List ℕ)
    (pair : List ℕ × List ℕ) : Type 0 where
  pub page : List ℕ
  pub read : WasRead T start spot.at page
  pub row : List ℕ
  pub is : IsRowOn page spot.item cache key row
  pub key_is : pair.0 ≡ key
  pub value_is : pair.1 ≡ row_value row

-- the pair is the key of an item with the value of the row that its link names
pub record HadPair (T : Type 0) (start : Paged) (count cache : ℕ) (link : Link) (key : List ℕ)
    (pair : List ℕ × List ℕ) : Type 0 where
  pub spot : Spot
  pub leads : LeadsTo link start.part count spot
  pub is : ReadPair T start spot cache key pair

-- the pairs are those of these items, in their order
abbrev pub HadPairs : Type 0 → Paged → ℕ → ℕ → List Item → PairsList → Type 0
HadPairs T start count cache [] [] = Unit {0}
HadPairs T start count cache [] (pair ∷ pairs) = ⊥
HadPairs T start count cache (item ∷ items) [] = ⊥
HadPairs T start count cache (item ∷ items) (pair ∷ pairs) =
    HadPair T start count cache (as_link item.word) item.key pair
    × HadPairs T start count cache items pairs

-- a leaf of the partition, with these bytes
pub record WasLeaf (T : Type 0) (start : Paged) (count at : ℕ) (page : List ℕ) : Type 0 where
  pub some : 1 ≤ at
  pub below : at < count
  pub read : WasRead T start at page
  pub kind : kind_of page ≡ LEAF_KIND

-- the leaf, its next one, and the pairs of its items
pub record HadLeaf (T : Type 0) (start : Paged) (count cache leaf next : ℕ) (pairs : PairsList)
    : Type 0 where
  pub page : List ℕ
  pub was : WasLeaf T start count leaf page
  pub next_is : next ≡ (index_of page).link
  pub pairs_are : HadPairs T start count cache (items_of page) pairs

-- From a leaf on so many leaves were read, each naming the next. Page `from` is the last of them,
-- its next one is page `at`, and these are the pairs of all their items.
abbrev pub HadLeaves : Type 0 → Paged → ℕ → ℕ → ℕ → ℕ → ℕ → ℕ → PairsList → Type 0
HadLeaves T start count cache first zero from at pairs =
    (from ≡ first) × (at ≡ first) × (pairs ≡ [])
HadLeaves T start count cache first (suc n) from at pairs =
    (earlier : PairsList) × (later : PairsList)
    × HadLeaf T start count cache from at later × (pairs ≡ earlier ++ later)
    × (before : ℕ) × HadLeaves T start count cache first n before from earlier

-- the pairs of all leaves from one on: the last has no next one
pub record HadAllLeaves (T : Type 0) (start : Paged) (count cache first : ℕ) (pairs : PairsList)
    : Type 0 where
  pub leaves : ℕ
  pub last : ℕ
  pub read : HadLeaves T start count cache first leaves last 0 pairs

-- the first leaf of the tree at a root
pub record WasFirstLeaf (T : Type 0) (start : Paged) (count root leaf : ℕ) : Type 0 where
  pub levels : ℕ
  pub few : levels < LEVELS_MAX
  pub from : ℕ
  pub read : LeadsDown T start count root levels from leaf
  pub was : WasPage T start count leaf Leaf

-- the partition had no meta page, or that names no root for the cache
abbrev pub HadNoTree : Type 0 → Paged → ℕ → Type 0
HadNoTree T start cache = (T → start.pages 0 ≡ None) ⊎ HadNumber T start (Root cache) 0

-- the pairs of all leaves of the tree of a cache
pub record HadTreePairs (T : Type 0) (start : Paged) (cache : ℕ) (pairs : PairsList) : Type 0 where
  pub count : ℕ
  pub count_is : HadNumber T start Pages count
  pub root : ℕ
  pub some : root ≢ 0
  pub root_is : HadNumber T start (Root cache) root
  pub first : ℕ
  pub first_is : WasFirstLeaf T start count root first
  pub are : HadAllLeaves T start count cache first pairs

-- the pairs of a cache as they were read: none where it had no tree
abbrev pub HadTree : Type 0 → Paged → ℕ → PairsList → Type 0
HadTree T start cache pairs =
    (HadNoTree T start cache × (pairs ≡ [])) ⊎ HadTreePairs T start cache pairs
