-- What reading a page into a frame tells.
use Rattle.std.specs.Prelude.{◌≡◌, ℕ, ◌+◌, nat_le, if◌then◌else◌, List, length, take, drop, true, false, Bool}
use Rattle.std.specs.Prelude.{Option, Some, None, Result, Ok, IsErrOf}
use Rattle.pm_types.specs.declared.page_id.PageId.{PageId}
use Rattle.pm_types.specs.declared.shape.Shape.{Shape}
use Rattle.pm_types.specs.declared.fault.PageFault.{PageFault}
use Rattle.pm_types.specs.declared.fault.PageFault.TheVariants.{BadPage}
use Rattle.pm_types.specs.Ids.{part_of_id, index_of_id}
use Rattle.pm_disk.specs.Files.{bytes_of}
use Rattle.pm_disk.specs.Worlds.{World, pages_in, page_at}
use Rattle.pm_pages.specs.Passes.{PassesAt}
use Rattle.pm_pages.specs.PageLists.{ReadsAt}

-- under its name these bytes pass their check
abbrev pub Passes : Shape → PageId → List ℕ → Type 0
Passes shape id bytes = PassesAt shape.page_size shape.max_rows (part_of_id id) (index_of_id id) bytes

-- under its name a page with these bytes reads as what it says
abbrev pub Reads : PageId → List ℕ → Type 0
Reads id bytes = ReadsAt (index_of_id id) bytes

-- the page that a partition's file has at this offset
abbrev pub stored_at : Option (List ℕ) → ℕ → ℕ → Option (List ℕ)
stored_at file at size =
    if nat_le (at + size) (length (bytes_of file)) then Some (take size (drop at (bytes_of file))) else None

-- the page of this name in the partitions' files
abbrev pub stored : World → ℕ → PageId → Option (List ℕ)
stored world size id = stored_at (pages_in world (part_of_id id)) (page_at id size) size

-- the page is there, and fails its check
pub record FailsCheck (shape : Shape) (id : PageId) (file : Option (List ℕ)) : Type 0 where
  pub bytes : List ℕ
  pub there : file ≡ Some bytes
  pub fails : Passes shape id bytes → ⊥

-- A page was read: at true it passes its check, and it is what its file has; at false there is none.
pub record ReadsPage (shape : Shape) (id : PageId) (tells : Type 0) (file : Option (List ℕ))
    (result : Result Bool PageFault) (bytes : List ℕ) : Type 0 where
  pub passes : result ≡ Ok true → Passes shape id bytes
  pub whole : result ≡ Ok true → tells → file ≡ Some bytes
  pub absent : result ≡ Ok false → tells → file ≡ None
  pub bad : (named : PageId) → IsErrOf result (BadPage named)
      → (named ≡ id) × (tells → FailsCheck shape id file)
