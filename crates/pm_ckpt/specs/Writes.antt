-- The pages of a checkpoint, and how they are written.
use Rattle.std.specs.Prelude.{◌≡◌, ℕ, List, [], ◌∷◌, ◌++◌, map, length, slice_get, Some, None}
use Rattle.std.specs.Prelude.{if◌then◌else◌, All, Result, true, false}
use Rattle.std.specs.Option.{option_and_then}
use Rattle.std.specs.List.Sorted.{IsPermutation, IsNonDecreasingBy}
use Rattle.pm_types.specs.declared.page_id.PageId.{PageId}
use Rattle.pm_types.specs.declared.shape.Mark.{Mark}
use Rattle.pm_types.specs.Ids.{part_of_id, index_of_id}
use Rattle.pm_disk.specs.Files.{bytes_of, missing, gapped}
use Rattle.pm_disk.specs.Moments.{History}
use Rattle.pm_disk.specs.Worlds.{World, pages_in, page_at, pages_changed}
use Rattle.pm_pages.specs.declared.plain.PlainPages.{PlainPages}
use Rattle.pm_pages.specs.Plain.{plain_seen}
use Rattle.pm_core.specs.BasePages.{Partitions, page_in_file}
use Rattle.pm_core.specs.Calls.{MakesSteps, finish_steps}
use Rattle.pm_core.specs.Machine.{DiskStep, WritePage}
use Rattle.pm_core.specs.PageSets.{has_index, has_part}
use Rattle.pm_core.specs.States.{State}

-- the pages of partitions, of which the first has number 0
abbrev pub held_in : List PlainPages → Partitions
held_in pages part index = option_and_then (λ plain. (plain_seen plain).pages index) (slice_get pages part)

-- the bytes of a page
abbrev pub page_of : Partitions → PageId → List ℕ
page_of held page = bytes_of (held (part_of_id page) (index_of_id page))

-- a page is there, and has this size
pub record IsHeld (size : ℕ) (held : Partitions) (page : PageId) : Type 0 where
  pub there : held (part_of_id page) (index_of_id page) ≡ Some (page_of held page)
  pub sized : length (page_of held page) ≡ size

-- of these pages those that are named
abbrev pub named_of : Partitions → List PageId → Partitions
named_of held dirty part index = if has_index part index dirty then held part index else None

-- a page that is written, and the bytes that the disk writes before it, where its file ends before it
pub record Writing : Type 0 where
  pub page : PageId
  pub gap : List ℕ

abbrev pub written_page : Writing → PageId
written_page writing = writing.page

-- the pages are written, one after the other
abbrev pub write_steps : Partitions → List Writing → List DiskStep
write_steps held [] = []
write_steps held (writing ∷ writings) =
    WritePage writing.page writing.gap (page_of held writing.page) ∷ write_steps held writings

-- the world after a page was written
abbrev pub page_written : Partitions → Writing → World → World
page_written held writing world =
    let bytes : List ℕ = page_of held writing.page in
    pages_changed (part_of_id writing.page)
    (gapped (pages_in world (part_of_id writing.page)) (page_at writing.page (length bytes)) writing.gap bytes)
    world

-- the bytes before each page reach from the end of its file to the page
abbrev pub HaveGaps : Partitions → List Writing → World → Type 0
HaveGaps held [] world = Unit {0}
HaveGaps held (writing ∷ writings) world =
    (length writing.gap
    ≡ missing (page_at writing.page (length (page_of held writing.page)))
    (pages_in world (part_of_id writing.page)))
    × HaveGaps held writings (page_written held writing world)

-- Each of these pages was written once, in this order; at an `Err` a prefix of them.
pub record WritesPages {T E : Type 0} (old new : History) (result : Result T E) (held : Partitions)
    (order : List PageId) : Type 0 where
  pub writings : List Writing
  pub pages_are : map written_page writings ≡ order
  pub gaps : HaveGaps held writings old.world
  pub makes : (s : State) → MakesSteps {T = T} {E = E} old new result (write_steps held writings) s

-- Each of these pages was written once, in this order, then the files forced and the end marker written
-- and forced; at an `Err` a prefix of this.
pub record Finishes {T E : Type 0} (old new : History) (result : Result T E) (held : Partitions)
    (order : List PageId) (mark : Mark) : Type 0 where
  pub writings : List Writing
  pub pages_are : map written_page writings ≡ order
  pub gaps : HaveGaps held writings old.world
  pub makes : (s : State) → MakesSteps {T = T} {E = E} old new result
      (write_steps held writings ++ finish_steps mark order) s

-- the same pages, by rising partition and index
pub record IsOrderOf (dirty order : List PageId) : Type 0 where
  pub same : IsPermutation dirty order
  pub rising : IsNonDecreasingBy (λ page. page.0) order

-- each of these pages stands in its file with these bytes, and that lasts
pub record AreHome (size : ℕ) (held : Partitions) (dirty : List PageId) (world : World) : Type 0 where
  pub quiet : All (λ page. (world.pages (part_of_id page)).since ≡ []) dirty
  pub stand : All (λ page. page_in_file size (world.pages (part_of_id page)).forced (index_of_id page)
      ≡ held (part_of_id page) (index_of_id page)) dirty

-- the file of each partition that has none of these pages is as it was
abbrev pub LeavesFilesAlone : List PageId → World → World → Type 0
LeavesFilesAlone pages old new = (part : ℕ) → has_part part pages ≡ false → pages_in new part ≡ pages_in old part

-- Each of these pages is in its file with these bytes, and each other page that was in its file is there still. The
-- files of partitions that have none of them are as they were.
pub record StoresPages (size : ℕ) (held : Partitions) (order : List PageId) (old new : World) : Type 0 where
  pub there : (part index : ℕ) (bytes : List ℕ) → has_index part index order ≡ true
      → held part index ≡ Some bytes → page_in_file size (pages_in new part) index ≡ Some bytes
  pub others : (part index : ℕ) (bytes : List ℕ) → has_index part index order ≡ false
      → page_in_file size (pages_in old part) index ≡ Some bytes
      → page_in_file size (pages_in new part) index ≡ Some bytes
  pub alone : LeavesFilesAlone order old new
