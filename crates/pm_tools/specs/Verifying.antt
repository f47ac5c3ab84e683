-- What `verify` says of a store.
use Rattle.std.specs.Prelude.{◌≡◌, ◌⊎◌, ◌<◌, ◌+◌, ℕ, zero, suc, List, [], ◌∷◌, ◌++◌, Bool, true, false}
use Rattle.std.specs.Prelude.{Option, Some, None, if◌then◌else◌}
use Rattle.pm_types.specs.declared.page_id.PageId.{PageId}
use Rattle.pm_types.specs.declared.place.Place.{Place}
use Rattle.pm_types.specs.declared.shape.Shape.{Shape}
use Rattle.pm_disk.specs.Worlds.{World}
use Rattle.pm_frame.specs.Frames.{Frame}
use Rattle.pm_marks.specs.InForce.{Checkpoint, replay_of}
use Rattle.pm_meta.specs.declared.slots.MetaSlot.TheVariants.{Rows}
use Rattle.pm_pages.specs.Rows.{Partition, number_in, page_count}
use Rattle.pm_pages.specs.WellFormed.{IsWellFormed}
use Rattle.pm_records.specs.LogFiles.{contents}
use Rattle.pm_records.specs.Logs.{all_frames, record_in, after_frames, HasFrames, IsLogFrom}
use Rattle.pm_records.specs.Records.{Record, Logical, Snapshot, Delta, CpBegin, Restart, Seal}
use Rattle.pm_core.specs.BasePages.{Partitions, RebuiltAre, base_of, counted}
use Rattle.pm_core.specs.Held.{in_force}
use Rattle.pm_core.specs.LogAlone.{image_of}
use Rattle.pm_redo.specs.Loading.{IsBadBase}
use Rattle.pm_redo.specs.Pictures.{files_in, marked_shape}
use Rattle.pm_redo.specs.Rebuilding.{CanNotRebuildFor}
use Rattle.pm_segments.specs.Read.{HasScanned}
use Rattle.pm_segments.specs.Scans.{Scanned, frame_ahead, Advances}
use Rattle.pm_tools.specs.declared.verifying.Counts.{Counts}
use Rattle.pm_tools.specs.declared.verifying.PageCounts.{PageCounts}
use Rattle.pm_tools.specs.declared.listing.Next.{Next}
use Rattle.pm_tools.specs.declared.listing.Next.TheVariants as next
use Rattle.pm_tools.specs.Listings.{AreRecords}

-- the checkpoint in force
abbrev pub checkpoint_of : World → Checkpoint
checkpoint_of world = in_force (image_of world)

-- these are the store's base pages
pub record AreBasePages (world : World) (base : Partitions) : Type 0 where
  pub rebuilt : Partitions
  pub rebuilt_are : RebuiltAre (checkpoint_of world) (contents world.log) rebuilt
  pub is : base ≡ base_of (checkpoint_of world) rebuilt (files_in world)

-- how many pages the first so many partitions have
abbrev pub pages_counted : Partitions → ℕ → ℕ
pages_counted base zero = 0
pages_counted base (suc part) = pages_counted base part + page_count (base part)

-- how many rows they have, as their first pages say: of a well-formed partition that is the number of its rows
abbrev pub rows_counted : Partitions → ℕ → ℕ
rows_counted base zero = 0
rows_counted base (suc part) = rows_counted base part + number_in (base part) Rows

-- whether a frame holds a change of the map
abbrev pub is_logical : Option Record → Bool
is_logical None = false
is_logical (Some (Logical op cache key value)) = true
is_logical (Some (Snapshot page bytes)) = false
is_logical (Some (Delta page ranges)) = false
is_logical (Some (CpBegin number replay)) = false
is_logical (Some (Restart shape)) = false
is_logical (Some Seal) = false

abbrev pub logical_in : Frame → ℕ
logical_in frame = if is_logical (record_in frame) then 1 else 0

-- how many of these frames hold a change of the map
abbrev pub changes_in : List Frame → ℕ
changes_in [] = 0
changes_in (frame ∷ frames) = logical_in frame + changes_in frames

-- Each frame of the log from a place on holds a record, and so many of them hold a change of the map.
pub record CountsChanges (log : ℕ → List ℕ) (from : Place) (count : ℕ) : Type 0 where
  pub frames : List Frame
  pub is_log : IsLogFrom all_frames log from frames
  pub are_records : AreRecords frames
  pub is : count ≡ changes_in frames

-- the pages of the first so many partitions are well formed, and were counted
pub record HasCounted (shape : Shape) (base : Partitions) (parts : ℕ) (counts : PageCounts) : Type 0 where
  pub well_formed : (part : ℕ) → part < parts → IsWellFormed shape part (counted (base part))
  pub pages : counts.pages ≡ pages_counted base parts
  pub rows : counts.rows ≡ rows_counted base parts

-- the pages of each partition are well formed, and were counted; without a start marker there is none
abbrev pub ArePagesSound : Option Shape → Partitions → PageCounts → Type 0
ArePagesSound None base counts = (counts.pages ≡ 0) × (counts.rows ≡ 0)
ArePagesSound (Some shape) base counts = HasCounted shape base shape.partitions counts

-- The base pages of each partition are well formed, and each frame of the log from the replay place on holds a
-- record: so many pages, rows and changes of the map there are.
pub record IsVerified (world : World) (counts : Counts) : Type 0 where
  pub base : Partitions
  pub base_are : AreBasePages world base
  pub pages : ArePagesSound (marked_shape (checkpoint_of world)) base
      (record { pages = counts.pages; rows = counts.rows })
  pub log : CountsChanges (contents world.log) (replay_of (checkpoint_of world)) counts.records

-- the first frame of the log, from a place on, that holds no record stands there
pub record IsBadFrame (log : ℕ → List ℕ) (from at : Place) : Type 0 where
  pub before : List Frame
  pub frame : Frame
  pub run : HasFrames all_frames log from (before ++ frame ∷ [])
  pub are_records : AreRecords before
  pub bad : record_in frame ≡ None
  pub there : at ≡ after_frames from before

-- why a record is bad: the log doesn't rebuild the base pages, or a frame from the replay place on holds none
abbrev pub IsBadRecord : World → Place → Type 0
IsBadRecord world at =
    CanNotRebuildFor (checkpoint_of world) (contents world.log) at
    ⊎ IsBadFrame (contents world.log) (replay_of (checkpoint_of world)) at

abbrev pub IsBadIn : Option Shape → Partitions → PageId → Type 0
IsBadIn None base id = ⊥
IsBadIn (Some shape) base id = IsBadBase shape base id

pub record IsBadBasePage (world : World) (id : PageId) : Type 0 where
  pub base : Partitions
  pub base_are : AreBasePages world base
  pub bad : IsBadIn (marked_shape (checkpoint_of world)) base id

-- ---- how it is done

-- what a partition counts for, where it is well formed
pub record CountsPartition (shape : Shape) (part : ℕ) (base : Partition) (counts : PageCounts) : Type 0 where
  pub well_formed : IsWellFormed shape part (counted base)
  pub pages : counts.pages ≡ page_count base
  pub rows : counts.rows ≡ number_in base Rows

-- a frame's record was counted, where it is a change of the map
abbrev pub CountsRecord : Next → ℕ → ℕ → Option Record → Type 0
CountsRecord next.Record before now found =
    ((one : Record) × (found ≡ Some one)) × (now ≡ before + (if is_logical found then 1 else 0))
CountsRecord next.Bad before now found = (found ≡ None) × (now ≡ before)
CountsRecord next.End before now found = ⊥

-- the frame that stands next was read and counted
pub record CountsFrame (found : Next) (before now : ℕ) (scan later : Scanned) (world : World) : Type 0 where
  pub frame : Frame
  pub stands : frame_ahead scan world ≡ Some frame
  pub advances : Advances scan later (Some frame)
  pub says : CountsRecord found before now (record_in frame)

-- the same, or none stands there
abbrev pub CountsNext : Next → ℕ → ℕ → Scanned → Scanned → World → Type 0
CountsNext next.Record before now scan later world = CountsFrame next.Record before now scan later world
CountsNext next.Bad before now scan later world = CountsFrame next.Bad before now scan later world
CountsNext next.End before now scan later world =
    (frame_ahead scan world ≡ None) × Advances scan later None × (now ≡ before)

-- The frames so far hold records, so many of them changes of the map.
pub record HasRead (log : ℕ → List ℕ) (from : Place) (scan : Scanned) (count : ℕ) : Type 0 where
  pub frames : List Frame
  pub scanned : HasScanned log from frames scan
  pub are_records : AreRecords frames
  pub is : count ≡ changes_in frames
