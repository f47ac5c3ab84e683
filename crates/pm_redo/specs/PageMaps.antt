-- The pages that records of the log rebuild, as they are kept.
use Rattle.std.specs.Prelude.{◌≡◌, ℕ, ◌&&◌, ◌==◌, if◌then◌else◌, Bool, true, false, List, [], ◌∷◌, map}
use Rattle.std.specs.Prelude.{length, Option, Some, None}
use Rattle.pm_types.specs.declared.shape.Shape.{Shape}
use Rattle.pm_types.specs.PageSizes.{IsPageSize}
use Rattle.pm_records.specs.FirstRecords.{is_restart}
use Rattle.pm_records.specs.Records.{Record}
use Rattle.pm_core.specs.BasePages.{Partitions, no_pages, rebuilt_by}
use Rattle.pm_redo.specs.declared.rebuilt_pages.PageNumber.{PageNumber}

-- Pages of a store of this shape, by partition and index.
pub record PageMap : Type 0 where
  pub shape : Shape
  pub entries : List (PageNumber × List ℕ)

-- the pages of these entries
abbrev pub pages_in : List (PageNumber × List ℕ) → Partitions
pages_in [] part index = None
pages_in (entry ∷ entries) part index =
    if part == entry.0.part && index == entry.0.index then Some entry.1 else pages_in entries part index

-- the pages that are kept
abbrev pub kept_pages : PageMap → Partitions
kept_pages kept = pages_in kept.entries

-- entries with their values seen so
abbrev pub seen : {X Y : Type 0} → (X → Y) → List (PageNumber × X) → List (PageNumber × Y)
seen f entries = map (λ entry. (entry.0, f entry.1)) entries

-- A page may have this size, and each of these pages has it.
pub record AreSized (page_size : ℕ) (entries : List (PageNumber × List ℕ)) : Type 0 where
  pub may : IsPageSize page_size
  pub each : (part index : ℕ) (bytes : List ℕ) → pages_in entries part index ≡ Some bytes
      → length bytes ≡ page_size

-- The pages after a record, none where it can't be: a RESTART voids all that came before it.
abbrev pub pages_after : Shape → Record → Partitions → Option Partitions
pages_after shape found pages = if is_restart (Some found) then Some no_pages else rebuilt_by shape found pages

-- a record was taken, or it can't be and nothing changed
abbrev pub TakesRecord : Bool → PageMap → PageMap → Record → Type 0
TakesRecord true old new found =
    (new.shape ≡ old.shape) × (pages_after old.shape found (kept_pages old) ≡ Some (kept_pages new))
TakesRecord false old new found = (new ≡ old) × (pages_after old.shape found (kept_pages old) ≡ None)
