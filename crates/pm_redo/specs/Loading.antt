-- The base pages of a partition, loaded into memory.
use Rattle.std.specs.Prelude.{◌≡◌, ◌≤◌, ◌<◌, ◌⊎◌, ℕ, List, Option, None, Some, Result, IsErrOf, IfSome, IsSome}
use Rattle.pm_types.specs.declared.fault.StoreFault.{StoreFault}
use Rattle.pm_types.specs.declared.fault.StoreFault.TheVariants.{Failed, BadRecord}
use Rattle.pm_types.specs.declared.page.Page.{Page}
use Rattle.pm_types.specs.declared.page_id.PageId.{PageId}
use Rattle.pm_types.specs.declared.place.Place.{Place}
use Rattle.pm_types.specs.declared.shape.Shape.{Shape}
use Rattle.pm_types.specs.Ids.{page_id}
use Rattle.pm_disk.specs.States.{DeviceState, IsUsable, Rose}
use Rattle.pm_disk.specs.Worlds.{World}
use Rattle.pm_marks.specs.InForce.{Checkpoint}
use Rattle.pm_pages.specs.Passes.{PassesAt}
use Rattle.pm_pages.specs.Rows.{Partition, page_count}
use Rattle.pm_pages.specs.WellFormed.{IsWellFormed}
use Rattle.pm_core.specs.BasePages.{Partitions, base_of, counted}
use Rattle.pm_redo.specs.PageMaps.{PageMap}
use Rattle.pm_redo.specs.Pictures.{rebuilt_in, shape_in, marked_shape, files_in}

-- these are the base pages that are read
pub record BaseIs (pictures : Option PageMap) (world : World) (base : Partitions) : Type 0 where
  pub checkpoint : Checkpoint
  pub shaped : shape_in pictures ≡ marked_shape checkpoint
  pub is : base ≡ base_of checkpoint (rebuilt_in pictures) (files_in world)

-- base pages that are rebuilt have the store's shape
abbrev pub HaveShape : Shape → Option PageMap → Type 0
HaveShape shape pictures = IfSome pictures (λ kept. kept.shape ≡ shape)

-- each page that is there may stand in its file
abbrev pub EachPasses : Shape → ℕ → Partition → Type 0
EachPasses shape part pages =
    (index : ℕ) → IfSome (pages index) (PassesAt shape.page_size shape.max_rows part index)

-- these pages are all that count, and no others
abbrev pub AreCounted : Partition → Partition → Type 0
AreCounted base pages = (index : ℕ) → pages index ≡ counted base index

-- The base page with this name can't be: it counts, or is the first, and fails its check or isn't there. No
-- first page is bad that isn't there.
pub record IsBadPage (shape : Shape) (base : Partitions) (id : PageId) : Type 0 where
  pub part : ℕ
  pub index : ℕ
  pub inside : part < shape.partitions
  pub named : id ≡ page_id part index
  pub counts : (index ≡ 0) ⊎ (index < page_count (base part))
  pub there : index ≡ 0 → IsSome (base part 0)
  pub fails : (bytes : List ℕ) → base part index ≡ Some bytes
      → PassesAt shape.page_size shape.max_rows part index bytes → ⊥

-- This is the first page of a partition whose base pages aren't well formed.
pub record IsBadPartition (shape : Shape) (base : Partitions) (id : PageId) : Type 0 where
  pub part : ℕ
  pub inside : part < shape.partitions
  pub named : id ≡ page_id part 0
  pub bad : IsWellFormed shape part (counted (base part)) → ⊥

-- Why a base page is bad: it fails its check, or isn't there though it counts, or it is the first one of a
-- partition that isn't well formed.
abbrev pub IsBadBase : Shape → Partitions → PageId → Type 0
IsBadBase shape base id = IsBadPage shape base id ⊎ IsBadPartition shape base id

-- the page with this name isn't there, or fails its check
abbrev pub FailsCheck : Shape → ℕ → ℕ → Option (List ℕ) → PageId → Type 0
FailsCheck shape part index page id = (id ≡ page_id part index)
    × ((bytes : List ℕ) → page ≡ Some bytes → PassesAt shape.page_size shape.max_rows part index bytes → ⊥)

-- it is there, and fails its check
abbrev pub FailsThere : Shape → ℕ → ℕ → Option (List ℕ) → PageId → Type 0
FailsThere shape part index page id = IsSome page × FailsCheck shape part index page id

-- the bytes of a page, if it is there
abbrev pub bytes_in : Option Page → Option (List ℕ)
bytes_in None = None
bytes_in (Some page) = Some page.bytes.items

-- the count of faults doesn't fall, `Failed` comes only where it rose, and no record is bad
pub record HasPageFault {T : Type 0} (before now : DeviceState) (result : Result T StoreFault) : Type 0 where
  pub later : before.faults ≤ now.faults
  pub failed : IsErrOf result Failed → Rose before now
  pub access : now.access ≡ before.access
  pub usable : IsUsable before → IsUsable now
  pub no_record : (at : Place) → IsErrOf result (BadRecord at) → ⊥
