-- What several calls on data pages and the heads of buckets left of a partition.
use Rattle.std.specs.Prelude.{◌≡◌, ◌≢◌, ℕ, ◌<◌, List, [], Some, IsTrue}
use Rattle.pm_data.specs.DataPages.{IsDataPage}
use Rattle.pm_meta.specs.MetaPages.{IsMetaPage}
use Rattle.pm_meta.specs.declared.slots.MetaSlot.TheVariants.{Bucket}
use Rattle.pm_pages.specs.Rows.{Partition, page_count}
use Rattle.pm_pages.specs.Paged.{Paged}
use Rattle.pm_pages.specs.Edits.{EditsPages, HasMeta}
use Rattle.pm_pages.specs.SparePages.{SetsNumber}
use Rattle.pm_free.specs.declared.edits.Edit.{Edit}
use Rattle.pm_free.specs.declared.edits.Edit.TheVariants.{Before, After}
use Rattle.pm_free.specs.DataEdits.{IsDataAt, EditsData}
use Rattle.pm_free.specs.Sound.{KeepsSound}

-- At most so many pages were asked for that weren't before, and no others changed than were asked
-- for. Data pages at hand are so still, and sound pages are sound. Where the store reports its pages,
-- the partition changed so.
pub record ChangesData (T : Type 0) (old new : Paged) (most : ℕ)
    (change : Partition → Partition → Type 0) : Type 0 where
  pub edits : EditsPages T old new (λ j. IsTrue (new.asked j)) most
  pub meta : HasMeta new
  pub stay : (j : ℕ) → IsDataAt old j → IsDataAt new j
  pub sound : KeepsSound T old new
  pub told : T → change old.pages new.pages

-- a data page took a change, and nothing else happened
pub record EditsPartition (at : ℕ) (row : List ℕ) (edit : Edit) (old new : Partition) : Type 0 where
  pub some : at ≢ 0
  pub below : at < page_count old
  pub was : List ℕ
  pub now : List ℕ
  pub before : old at ≡ Some was
  pub after : new at ≡ Some now
  pub others : (j : ℕ) → j ≢ at → new j ≡ old j
  pub well_made : IsDataPage was
  pub edits : EditsData was row edit now

-- a page is the first of a bucket's chain, as the meta page says, and nothing else happened
pub record SetsHead (bucket index : ℕ) (old new : Partition) : Type 0 where
  pub was : List ℕ
  pub now : List ℕ
  pub before : old 0 ≡ Some was
  pub after : new 0 ≡ Some now
  pub others : (j : ℕ) → j ≢ 0 → new j ≡ old j
  pub well_made : IsMetaPage was
  pub well_made_now : IsMetaPage now
  pub sets : SetsNumber was now (Bucket bucket) index

-- the page `at`, if there is one, names this page as the one before it
pub record SetsBefore (at prev : ℕ) (old new : Partition) : Type 0 where
  pub none : at ≡ 0 → new ≡ old
  pub some : at ≢ 0 → EditsPartition at [] (Before prev) old new

-- the page `at`, or the bucket where there is none, names this page as the one after it, or its first
pub record SetsAfter (bucket at next : ℕ) (old new : Partition) : Type 0 where
  pub none : at ≡ 0 → SetsHead bucket next old new
  pub some : at ≢ 0 → EditsPartition at [] (After next) old new

-- a data page that is at hand, if there is a page
abbrev pub IsDataOrNone : Paged → ℕ → Type 0
IsDataOrNone p i = i ≢ 0 → IsDataAt p i
