-- What became of a partition in which a row was placed, or from which one was taken out.
use Rattle.std.specs.Prelude.{◌≡◌, ◌≢◌, ℕ, ◌<◌, ◌≤◌, ◌⊎◌, List, [], ◌∷◌, ◌++◌, Some, length, IsTrue}
use Rattle.pm_types.specs.declared.page_id.Link.{Link}
use Rattle.pm_types.specs.Ids.{page_id, link, page_of_link, item_of_link, index_of_id}
use Rattle.pm_data.specs.declared.layout.TheConstants.{DATA_KIND}
use Rattle.pm_data.specs.DataPages.{rows_of, row_at, data_of, empty_page, with_rows}
use Rattle.pm_meta.specs.declared.layout.TheConstants.{BUCKETS, REUSE_KIND}
use Rattle.pm_meta.specs.declared.slots.MetaSlot.{MetaSlot}
use Rattle.pm_meta.specs.declared.slots.MetaSlot.TheVariants.{Bucket, Reuse, Pages}
use Rattle.pm_meta.specs.MetaPages.{IsSlot}
use Rattle.pm_pages.specs.declared.row.Row.{Row}
use Rattle.pm_pages.specs.Rows as partition
use Rattle.pm_pages.specs.Rows.{Partition, page_at, page_count, number_in, kind_of, row_of}
use Rattle.pm_pages.specs.Chains.{times, HasChain}
use Rattle.pm_pages.specs.Paged.{Paged}
use Rattle.pm_pages.specs.Edits.{EditsPages, HasMeta}
use Rattle.pm_pages.specs.SoundPages.{IsSound, MayTake}
use Rattle.pm_free.specs.Buckets.{HasEnough}
use Rattle.pm_free.specs.DataEdits.{IsDataIn, IsDataAt}
use Rattle.pm_free.specs.Chained.{AreChained, KeepsRows, with_home}
use Rattle.pm_free.specs.Passing.{KeepsPassing}
use Rattle.pm_free.specs.Sound.{KeepsSound, LeavesSpare}
use Rattle.pm_pages.specs.SpareChains.{MovesSpare}

-- one list has one row more than another, and else the same rows in the same order
pub record HasOneMore (less all : List Row) (row : Row) : Type 0 where
  pub before : List Row
  pub after : List Row
  pub fewer : less ≡ before ++ after
  pub more : all ≡ before ++ row ∷ after

-- the chain of each bucket has exactly its data pages, each once, and each of them names the one before it
abbrev pub HasChains : Partition → Type 0
HasChains pages = (bucket : ℕ) → bucket < BUCKETS → HasChain pages bucket

-- no root changed, and the row count didn't
abbrev pub KeepsRoots : Partition → Partition → Type 0
KeepsRoots old new = (slot : MetaSlot) → IsSlot slot → slot ≢ Reuse → slot ≢ Pages
    → ((bucket : ℕ) → slot ≢ Bucket bucket) → number_in new slot ≡ number_in old slot

-- a page that can be taken: one that was given back, or the one after the last
abbrev pub IsUnused : Partition → ℕ → Type 0
IsUnused pages j = (kind_of (page_at pages j) ≡ REUSE_KIND) ⊎ (page_count pages ≤ j)

-- of the buckets below this one, those whose pages have room for a row of this length have no pages
abbrev pub HasNoneBelow : ℕ → Partition → ℕ → ℕ → Type 0
HasNoneBelow page_size pages len end = (bucket : ℕ) → bucket < end → HasEnough page_size len bucket
    → number_in pages (Bucket bucket) ≡ 0

-- The row has this link now; all other rows are as they were. The chains of the buckets and the reuse chain
-- are right where they were. The pages `made`, at most one, became data pages; but for them and other data
-- pages only the meta page changed, and of that no root and not the row count. It is on the first page of
-- the lowest bucket that has pages, of those whose pages have room for it, or on a new page where no such
-- bucket has pages.
pub record PlacesRow (page_size part : ℕ) (old new : Partition) (row : List ℕ) (at_link : Link) : Type 0 where
  pub at : ℕ
  pub item : ℕ
  pub is : at_link ≡ link (page_id part at) item
  pub some : 1 ≤ at
  pub below : at < page_count new
  pub kind : kind_of (page_at new at) ≡ DATA_KIND
  pub here : row_at (rows_of (page_at new at)) item ≡ Some row
  pub rows : HasOneMore (partition.rows_of part old) (partition.rows_of part new) (row_of at_link row)
  pub chains : HasChains old → HasChains new
  pub made : List ℕ
  pub few : length made ≤ 1
  pub only : (j : ℕ) → 1 ≤ times j made → (j ≡ at) × IsUnused old j
  pub moves : MovesSpare old new made []
  pub kinds : (j : ℕ) → times j made ≡ 0 → kind_of (page_at new j) ≡ kind_of (page_at old j)
  pub others : (j : ℕ) → j ≢ 0 → kind_of (page_at old j) ≢ DATA_KIND → times j made ≡ 0 → new j ≡ old j
  pub numbers : KeepsRoots old new
  pub lowest : (bucket : ℕ) → bucket < BUCKETS → HasEnough page_size (length row) bucket
      → HasNoneBelow page_size old (length row) bucket → number_in old (Bucket bucket) ≢ 0
      → at ≡ number_in old (Bucket bucket)
  pub none_fits : (j : ℕ) → 1 ≤ times j made → HasNoneBelow page_size old (length row) BUCKETS

-- The row of this link is gone; all other rows are as they were. The chains of the buckets and the reuse
-- chain are right where they were. The page `at`, on which it stood, has other rows, or is the one page
-- `given`, which was a data page and is a reuse page; but for them and other data pages only the meta page
-- changed, and of that no root and neither the row count nor the page count.
pub record TakesRow (part : ℕ) (old new : Partition) (at_link : Link) : Type 0 where
  pub at : ℕ
  pub row : List ℕ
  pub rows : HasOneMore (partition.rows_of part new) (partition.rows_of part old) (row_of at_link row)
  pub chains : HasChains old → HasChains new
  pub given : List ℕ
  pub left : times at given ≡ 0 → rows_of (page_at new at) ≢ []
  pub only : (j : ℕ) → 1 ≤ times j given
      → (j ≡ at) × (kind_of (page_at old j) ≡ DATA_KIND) × (kind_of (page_at new j) ≡ REUSE_KIND)
  pub moves : MovesSpare old new [] given
  pub count : page_count new ≡ page_count old
  pub kinds : (j : ℕ) → times j given ≡ 0 → kind_of (page_at new j) ≡ kind_of (page_at old j)
  pub others : (j : ℕ) → j ≢ 0 → kind_of (page_at old j) ≢ DATA_KIND → new j ≡ old j
  pub numbers : KeepsRoots old new

-- this item of page i has a row, and the page is a data page that is at hand
pub record HasItemAt (p : Paged) (i item : ℕ) : Type 0 where
  pub is : IsDataAt p i
  pub row : List ℕ
  pub live : row_at (rows_of is.page) item ≡ Some row

-- the link is that of a row on a data page of the partition that is at hand
pub record HasRowAt (p : Paged) (at_link : Link) : Type 0 where
  pub name : page_of_link at_link ≡ page_id p.part (index_of_id (page_of_link at_link))
  pub item : HasItemAt p (index_of_id (page_of_link at_link)) (item_of_link at_link)

-- A page that stood in the chain of a bucket stands in none, and is the first of the reuse chain. But for
-- it and other data pages only the meta page changed.
pub record DropsPage (old new : Partition) (at from : ℕ) : Type 0 where
  pub chains : (home : ℕ → ℕ) → AreChained old home → home at ≡ from
      → AreChained new (with_home home at BUCKETS)
  pub pages : (j : ℕ) → j ≢ at → KeepsRows (page_at old j) (page_at new j)
  pub kind : kind_of (page_at new at) ≡ REUSE_KIND
  pub count : page_count new ≡ page_count old
  pub others : (j : ℕ) → j ≢ 0 → j ≢ at → kind_of (page_at old j) ≢ DATA_KIND → new j ≡ old j
  pub moves : MovesSpare old new [] (at ∷ [])
  pub numbers : KeepsRoots old new
  pub passes : (j : ℕ) → j ≢ at → KeepsPassing old new j

-- page i is at hand and is a data page with this row alone, as this item, and without neighbours
pub record IsFilledIn (p : Paged) (i : ℕ) (row : List ℕ) (item : ℕ) : Type 0 where
  pub page : List ℕ
  pub is : IsDataIn p i page
  pub first : item ≡ 0
  pub says : data_of page ≡ with_rows (empty_page (page_id p.part i)) (Some row ∷ [])

-- The store reports its pages, which are sound; the partition has a page, and its chains are right.
-- Where no bucket has pages of those whose pages have room for a row of this length, a page can be
-- taken.
pub record MayPlace (T : Type 0) (p : Paged) (len : ℕ) : Type 0 where
  pub told : T
  pub sound : IsSound p
  pub some : 1 ≤ page_count p.pages
  pub chains : HasChains p.pages
  pub take : HasNoneBelow p.page_size p.pages len BUCKETS → MayTake T p

-- At most so many pages were asked for that weren't before, and no others changed than were asked
-- for. Sound pages are sound still, and at most so many of those that can be taken were taken. Where
-- the store reports its pages, the partition changed so.
pub record ChangesRows (T : Type 0) (old new : Paged) (most more : ℕ)
    (change : Partition → Partition → Type 0) : Type 0 where
  pub edits : EditsPages T old new (λ j. IsTrue (new.asked j)) most
  pub meta : HasMeta new
  pub sound : KeepsSound T old new
  pub takes : LeavesSpare T old new more
  pub told : T → change old.pages new.pages
