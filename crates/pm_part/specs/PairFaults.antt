-- Why the pairs of a cache can't be read.
use Rattle.std.specs.Prelude.{◌≡◌, ◌≢◌, ℕ, ◌<◌, ◌≤◌, ◌⊎◌, List, Result, IsErrOf, length}
use Rattle.pm_types.specs.declared.page_id.Link.{Link}
use Rattle.pm_types.specs.declared.page_id.PageId.{PageId}
use Rattle.pm_types.specs.declared.place.Place.{Place}
use Rattle.pm_types.specs.declared.fault.PageFault.{PageFault}
use Rattle.pm_types.specs.declared.fault.PageFault.TheVariants as page_fault
use Rattle.pm_types.specs.declared.fault.StoreFault.{StoreFault}
use Rattle.pm_types.specs.declared.fault.StoreFault.TheVariants as store_fault
use Rattle.pm_types.specs.Counts.{HasRisen}
use Rattle.pm_types.specs.Ids.{page_id, page_of_link, item_of_link, index_of_id}
use Rattle.pm_btpage.specs.declared.layout.TheConstants.{LEAF_KIND}
use Rattle.pm_btpage.specs.IndexPages.{items_of, key_in, word_in}
use Rattle.pm_meta.specs.declared.slots.MetaSlot.TheVariants.{Root, Pages}
use Rattle.pm_pages.specs.declared.limits.TheConstants.{LEVELS_MAX}
use Rattle.pm_pages.specs.Rows.{kind_of}
use Rattle.pm_pages.specs.Paged.{Paged, IsBadPage}
use Rattle.pm_tree.specs.Indexes.{as_link}
use Rattle.pm_part.specs.declared.pairs.Down.TheVariants.{Other}
use Rattle.pm_part.specs.Reads.{ReadsPages}
use Rattle.pm_part.specs.Spots.{HasNoRowOn, LeadsNowhere}
use Rattle.pm_part.specs.PairReads.{PairsList, WasRead, HadNumber, IsDown, LeadsDown, WasLeaf, HadLeaves}
use Rattle.pm_part.specs.PairReads.{WasFirstLeaf}

-- page i was bad, which has this name, at a moment until which pages were only read
pub record WasBadAt (T : Type 0) (start : Paged) (i : ℕ) (id : PageId) : Type 0 where
  pub moment : Paged
  pub reads : ReadsPages T start moment
  pub bad : IsBadPage T moment i id

-- a page was bad, which has this name: the first page, or one below the page count
pub record WasBad (T : Type 0) (start : Paged) (count : ℕ) (id : PageId) : Type 0 where
  pub i : ℕ
  pub below : (i ≡ 0) ⊎ (i < count)
  pub is : WasBadAt T start i id

-- page i was read, and this item of it was no row of the key
pub record HadNoRow (T : Type 0) (start : Paged) (i item cache : ℕ) (key : List ℕ) : Type 0 where
  pub page : List ℕ
  pub read : WasRead T start i page
  pub none : HasNoRowOn page item cache key

-- the link named no row of a key of a cache: it names no page of the partition, or an item that was
-- no such row
abbrev pub NamedNoRow : Type 0 → Paged → ℕ → ℕ → Link → List ℕ → Type 0
NamedNoRow T start count cache link key = LeadsNowhere link start.part count
    ⊎ HadNoRow T start (index_of_id (page_of_link link)) (item_of_link link) cache key

-- an item of a leaf named no row of its key
pub record HadWrongItem (T : Type 0) (start : Paged) (count cache : ℕ) (page : List ℕ)
    : Type 0 where
  pub item : ℕ
  pub in_range : item < length (items_of page)
  pub wrong : NamedNoRow T start count cache (as_link (word_in (items_of page) item))
      (key_in (items_of page) item)

-- there was no such leaf: 0 names none, nor does an index past the page count, nor a page of
-- another kind
abbrev pub WasNoLeaf : Type 0 → Paged → ℕ → ℕ → Type 0
WasNoLeaf T start count at = (at ≡ 0) ⊎ (count ≤ at)
    ⊎ ((page : List ℕ) × WasRead T start at page × (kind_of page ≢ LEAF_KIND))

-- page `leaf`, which has this name, was a leaf with an item that named no row of its key
pub record WasWrongLeaf (T : Type 0) (start : Paged) (count cache leaf : ℕ) (id : PageId)
    : Type 0 where
  pub name : id ≡ page_id start.part leaf
  pub page : List ℕ
  pub was : WasLeaf T start count leaf page
  pub wrong : HadWrongItem T start count cache page

-- a link of a key named no row of it, in a leaf that has this name
pub record IsPairFault (T : Type 0) (start : Paged) (count cache leaf : ℕ) (link : Link)
    (key : List ℕ) (id : PageId) : Type 0 where
  pub name : id ≡ page_id start.part leaf
  pub wrong : NamedNoRow T start count cache link key

-- an item named no row of its key, in a leaf that has this name and these bytes
pub record IsItemFault (T : Type 0) (start : Paged) (count cache leaf : ℕ) (page : List ℕ)
    (id : PageId) : Type 0 where
  pub name : id ≡ page_id start.part leaf
  pub wrong : HadWrongItem T start count cache page

-- page `from`, which has this name, named no leaf
pub record NamedNoLeaf (T : Type 0) (start : Paged) (count from at : ℕ) (id : PageId) : Type 0 where
  pub name : id ≡ page_id start.part from
  pub none : WasNoLeaf T start count at

-- what was wrong of a leaf, which page `from` names
abbrev pub IsLeafFault : Type 0 → Paged → ℕ → ℕ → ℕ → ℕ → PageId → Type 0
IsLeafFault T start count cache from at id =
    NamedNoLeaf T start count from at id ⊎ WasWrongLeaf T start count cache at id

-- What was wrong of the leaves from one on, of which so many were read: the last of them, page
-- `from`, names a page `at` that is no leaf, or one with a wrong item, or there were more leaves
-- than pages.
pub record IsLeavesFault (T : Type 0) (start : Paged) (count cache first : ℕ) (id : PageId)
    : Type 0 where
  pub leaves : ℕ
  pub from : ℕ
  pub at : ℕ
  pub pairs : PairsList
  pub read : HadLeaves T start count cache first leaves from at pairs
  pub some : 1 ≤ at
  pub wrong : IsLeafFault T start count cache from at id
      ⊎ ((leaves ≡ count) × (id ≡ page_id start.part from))

-- What was wrong on the way to the first leaf: page `from` named a page `at` that is of no tree, or
-- there was one more level than a tree may have.
pub record IsDownFault (T : Type 0) (start : Paged) (count root : ℕ) (id : PageId) : Type 0 where
  pub levels : ℕ
  pub from : ℕ
  pub at : ℕ
  pub read : LeadsDown T start count root levels from at
  pub name : id ≡ page_id start.part from
  pub wrong : IsDown T start count at Other ⊎ (levels ≡ LEVELS_MAX)

-- a page of the partition was bad, or something was wrong on the way to the first leaf or of the
-- leaves
pub record IsPairsFault (T : Type 0) (start : Paged) (cache : ℕ) (id : PageId) : Type 0 where
  pub count : ℕ
  pub count_is : HadNumber T start Pages count
  pub root : ℕ
  pub some : root ≢ 0
  pub root_is : HadNumber T start (Root cache) root
  pub fault : WasBad T start count id ⊎ IsDownFault T start count root id
      ⊎ ((first : ℕ) × WasFirstLeaf T start count root first
      × IsLeavesFault T start count cache first id)

-- A call of the disk failed, or there was such a fault, also as seen from a moment since which
-- pages were only read. No record of the log is named.
pub record HasReadCause {R : Type 0} (T : Type 0) (old new : Paged)
    (fault : Paged → PageId → Type 0) (result : Result R StoreFault) : Type 0 where
  pub failed : IsErrOf result store_fault.Failed → HasRisen old.faults new.faults
  pub bad : (start : Paged) → ReadsPages T start old → (id : PageId)
      → IsErrOf result (store_fault.BadPage id) → fault start id
  pub no_record : (place : Place) → IsErrOf result (store_fault.BadRecord place) → ⊥

-- the same of a call that takes no memory
pub record HasPageReadCause {R : Type 0} (T : Type 0) (old new : Paged)
    (fault : Paged → PageId → Type 0) (result : Result R PageFault) : Type 0 where
  pub failed : IsErrOf result page_fault.Failed → HasRisen old.faults new.faults
  pub bad : (start : Paged) → ReadsPages T start old → (id : PageId)
      → IsErrOf result (page_fault.BadPage id) → fault start id

-- a call of the disk failed, the meta page was bad, or there was such a fault; no record of the log is named
pub record HasPairsCause {R : Type 0} (T : Type 0) (old new : Paged) (cache : ℕ)
    (result : Result R StoreFault) : Type 0 where
  pub failed : IsErrOf result store_fault.Failed → HasRisen old.faults new.faults
  pub bad : (id : PageId) → IsErrOf result (store_fault.BadPage id)
      → WasBad T old 0 id ⊎ IsPairsFault T old cache id
  pub no_record : (place : Place) → IsErrOf result (store_fault.BadRecord place) → ⊥

-- no page is answered as bad
abbrev pub NamesNoBadPage : {R : Type 0} → Result R StoreFault → Type 0
NamesNoBadPage result = (id : PageId) → IsErrOf result (store_fault.BadPage id) → ⊥
