-- What the log's frames since the last CP_BEGIN or RESTART say of the pages of a store.
use Rattle.std.specs.Prelude.{◌≡◌, ◌≢◌, ◌<◌, ◌⊎◌, ℕ, true, false, List, length, Option, Some, None, IsSome}
use Rattle.std.specs.Prelude.{IsSomeAnd}
use Rattle.pm_types.specs.declared.page_id.PageId.{PageId}
use Rattle.pm_types.specs.declared.shape.Shape.{Shape}
use Rattle.pm_types.specs.Pages.{SameOutside}
use Rattle.pm_types.specs.Spans.{Coverage, Covers, IsPatch}
use Rattle.pm_frame.specs.Frames.{Frame}
use Rattle.pm_records.specs.Records.{Record, Logical, Snapshot, Delta, CpBegin, Restart, Seal}
use Rattle.pm_pages.specs.Asked.{is_changed, IsPatchFor}
use Rattle.pm_pages.specs.KeptPages.{IsPageOf}
use Rattle.pm_pages.specs.Paged.{Paged, IsWhole}
use Rattle.pm_pages.specs.Rows.{Partition}
use Rattle.pm_core.specs.BasePages.{Partitions, rebuilt_of}
use Rattle.pm_core.specs.PageSets.{has_index}
use Rattle.pm_ckpt.specs.Writes.{named_of}

-- These frames rebuild the logged pages, and no others, and each logged page is there. Every other page of the
-- store is as the partitions' files have it.
pub record TracksPages (shape : Shape) (frames : List Frame) (files pages : Partitions)
    (logged : List PageId) : Type 0 where
  pub rebuilt : Partitions
  pub is : rebuilt_of shape frames ≡ Some rebuilt
  pub each : (part index : ℕ) → rebuilt part index ≡ named_of pages logged part index
  pub there : (part index : ℕ) → has_index part index logged ≡ true
      → IsPageOf shape.page_size (pages part index)
  pub clean : (part index : ℕ) → part < shape.partitions → has_index part index logged ≡ false
      → pages part index ≡ files part index

-- the record says nothing of a page
abbrev pub SaysNoPage : Record → Type 0
SaysNoPage (Logical op cache key value) = Unit {0}
SaysNoPage (Snapshot page bytes) = ⊥
SaysNoPage (Delta page ranges) = ⊥
SaysNoPage (CpBegin number replay) = Unit {0}
SaysNoPage (Restart shape) = ⊥
SaysNoPage Seal = Unit {0}

-- what a patch says of a page of this size that was `was` and is `now`: if it isn't whole, they differ only
-- where it covers them
pub record IsPatchOf (size : ℕ) (patch : Coverage) (was now : Option (List ℕ)) : Type 0 where
  pub fits : IsPatch patch
  pub size_is : patch.page_size ≡ size
  pub within : patch.whole ≡ false → (before after : List ℕ) → was ≡ Some before → now ≡ Some after
      → SameOutside (Covers patch) before after

-- An operation made these pages of a partition out of the old ones: a page that it noted no change of is as it
-- was, and each other one is there, and differs from what it was only where its patch covers it.
pub record ChangesWithin (size : ℕ) (old : Partition) (seen : Paged) : Type 0 where
  pub unchanged : (index : ℕ) → is_changed (seen.patch index) ≡ false → seen.pages index ≡ old index
  pub there : (index : ℕ) → is_changed (seen.patch index) ≡ true → IsPageOf size (seen.pages index)
  pub patched : (index : ℕ) (patch : Coverage) → seen.patch index ≡ Some patch
      → IsPatchOf size patch (old index) (seen.pages index)

-- the same of one page, which was `was` and is `now`
pub record ChangesPage (size : ℕ) (was now : Option (List ℕ)) (patch : Option Coverage) : Type 0 where
  pub unchanged : is_changed patch ≡ false → now ≡ was
  pub there : is_changed patch ≡ true → IsPageOf size now
  pub patched : (cover : Coverage) → patch ≡ Some cover → IsPatchOf size cover was now

-- what an operation leaves of one page besides its edits, as `KeepsPages` says it of all
pub record KeepsPage (size : ℕ) (old new : Paged) (index : ℕ) : Type 0 where
  pub size_is : old.page_size ≡ size
  pub sized : (was : List ℕ) → old.pages index ≡ Some was → length was ≡ size
  pub stays : (was : List ℕ) → old.pages index ≡ Some was → IsPageOf size (new.pages index)
  pub comes : old.pages index ≡ None
      → ((new.pages index ≡ None) × (new.patch index ≡ None))
      ⊎ (IsPageOf size (new.pages index) × IsSomeAnd (new.patch index) (IsWhole size))
  pub patches : (patch : Coverage) → new.patch index ≡ Some patch → IsPatchFor size patch

-- the pages of a partition are these now, and those of the other partitions are as they were
pub record ChangesPart (part : ℕ) (old new : Partitions) (now : Partition) : Type 0 where
  pub here : (index : ℕ) → new part index ≡ now index
  pub elsewhere : (other index : ℕ) → other ≢ part → new other index ≡ old other index

-- the pages of each partition of this shape are as the partitions' files have them
abbrev pub AreAsFiles : Shape → Partitions → Partitions → Type 0
AreAsFiles shape files pages = (part index : ℕ) → part < shape.partitions → pages part index ≡ files part index

-- a partition that has a page has its first one
abbrev pub HaveFirstPages : Shape → Partitions → Type 0
HaveFirstPages shape pages = (part index : ℕ) → part < shape.partitions → IsSome (pages part index)
    → IsSome (pages part 0)
