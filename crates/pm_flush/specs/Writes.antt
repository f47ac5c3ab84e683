-- Pages that are written one after the other.
use Rattle.std.specs.Prelude.{◌≡◌, ℕ, ◌+◌, ◌≤◌, List, [], ◌∷◌, length, take, Result, OnOk}
use Rattle.pm_types.specs.Ids.{part_of_id}
use Rattle.pm_types.specs.declared.page_id.PageId.{PageId}
use Rattle.pm_disk.specs.Files.{missing, gapped}
use Rattle.pm_disk.specs.Moments.{History, AllMoments}
use Rattle.pm_disk.specs.Worlds.{World, pages_in, page_at, pages_changed}

-- A page that is written, with its bytes, and those that the disk writes before them, where the file ends before
-- the page.
pub record PageWrite : Type 0 where
  pub page : PageId
  pub gap : List ℕ
  pub bytes : List ℕ

-- the world after a page was written
abbrev pub page_written : PageWrite → World → World
page_written write world =
    pages_changed (part_of_id write.page)
    (gapped (pages_in world (part_of_id write.page)) (page_at write.page (length write.bytes)) write.gap
    write.bytes) world

-- the world after these pages were written, the first of them first
abbrev pub pages_written : List PageWrite → World → World
pages_written [] world = world
pages_written (write ∷ writes) world = pages_written writes (page_written write world)

-- the bytes before each page reach from the end of its file to the page
abbrev pub HaveGaps : List PageWrite → World → Type 0
HaveGaps [] world = Unit {0}
HaveGaps (write ∷ writes) world =
    (length write.gap
    ≡ missing (page_at write.page (length write.bytes)) (pages_in world (part_of_id write.page)))
    × HaveGaps writes (page_written write world)

-- so many of these pages were written, from the first on
abbrev pub WritesFirst : List PageWrite → World → World → ℕ → Type 0
WritesFirst writes old now count = (count ≤ length writes) × (now ≡ pages_written (take count writes) old)

-- These pages were written one after the other, and nothing else of the world changed: at `Ok` each of them, and
-- at an `Err` all but the last, and that one perhaps.
pub record WritesPages {T E : Type 0} (old new : History) (result : Result T E)
    (writes : List PageWrite) : Type 0 where
  pub gaps : HaveGaps writes old.world
  pub ok : OnOk result (new.world ≡ pages_written writes old.world)
  pub either : (count : ℕ) × (length writes ≤ count + 1) × WritesFirst writes old.world new.world count
  pub moments : AllMoments old new (λ world. (count : ℕ) × WritesFirst writes old.world world count)
