-- What a flush writes.
use Rattle.std.specs.Prelude.{◌≡◌, List, map, Contains, Result}
use Rattle.pm_types.specs.declared.page_id.PageId.{PageId}
use Rattle.pm_disk.specs.Moments.{History}
use Rattle.pm_locks.specs.declared.view.View.{View}
use Rattle.pm_flush.specs.declared.due_page.DuePage.{DuePage}
use Rattle.pm_flush.specs.Copies.{CopiedPage}
use Rattle.pm_flush.specs.Frames.{bytes_due}
use Rattle.pm_flush.specs.Writes.{PageWrite, WritesPages}

-- Of the job these pages were written, one after the other, each with the bytes that are to be written of it, and
-- nothing else of the world changed: at `Ok` each of them, and at an `Err` all but the last, and that one perhaps.
pub record WritesDue {T E : Type 0} (old new : History) (result : Result T E) (copies : List CopiedPage)
    (view : View) (job : List DuePage) (pages : List PageId) : Type 0 where
  pub writes : List PageWrite
  pub pages_are : map (λ write. write.page) writes ≡ pages
  pub bytes_are : (write : PageWrite) (due : DuePage) → Contains writes write → Contains job due
      → due.page ≡ write.page → write.bytes ≡ bytes_due copies view due
  pub made : WritesPages {T = T} {E = E} old new result writes
