-- Jobs: pages that are due, and what becomes of them.
use Rattle.std.specs.Prelude.{◌≡◌, ◌≢◌, ◌⊎◌, ℕ, ◌+◌, ◌<◌, ◌≤◌, List, [], ◌∷◌, ◌++◌, length, map, take, drop}
use Rattle.std.specs.Prelude.{All, AllPairs, Some, Result, Ok, Err, OnOk, OnErr}
use Rattle.pm_types.specs.declared.limits.TheConstants.{PAGE_SIZE_MAX}
use Rattle.pm_types.specs.declared.page_id.PageId.{PageId}
use Rattle.pm_disk.specs.States.{DeviceState, MayWrite}
use Rattle.pm_locks.specs.Rule.{frame_range}
use Rattle.pm_locks.specs.Sight.{LockTable, IsFrameOf, HasPageSize}
use Rattle.pm_flush.specs.declared.due_page.DuePage.{DuePage}
use Rattle.pm_flush.specs.Copies.{CopiedPage, copy_of}

-- the pages of a job, in its order
abbrev pub pages_of : List DuePage → List PageId
pages_of job = map (λ due. due.page) job

-- A job names each page once, and frames that these locks have.
pub record IsJob (locks : LockTable) (job : List DuePage) : Type 0 where
  pub once : AllPairs (λ one other. one.page ≢ other.page) job
  pub frames : All (λ due. IsFrameOf locks due.frame) job

-- each page of the job may be written
abbrev pub MayWriteAll : DeviceState → List DuePage → Type 0
MayWriteAll state job = All (λ due. MayWrite state due.page) job

-- no frame of these locks is longer than a page may be
abbrev pub HasShortFrames : LockTable → Type 0
HasShortFrames locks = (f : ℕ) → IsFrameOf locks f → (frame_range locks.ranges f).len ≤ PAGE_SIZE_MAX

-- each copy is as long as a page of these locks
abbrev pub CopiesHavePageSize : LockTable → List CopiedPage → Type 0
CopiesHavePageSize locks copies = (page : PageId) (bytes : List ℕ) → copy_of copies page ≡ Some bytes
    → HasPageSize locks (length bytes)

-- Each of these went to one of two lists, and stands there in the same order.
abbrev pub Splits : {X : Type 0} → List X → List X → List X → Type 0
Splits [] one other = (one ≡ []) × (other ≡ [])
Splits {X} (x ∷ xs) one other =
    ((rest : List X) × (one ≡ x ∷ rest) × Splits xs rest other)
    ⊎ ((rest : List X) × (other ≡ x ∷ rest) × Splits xs one rest)

-- Of a job's pages a prefix was written or left, each the one or the other: at `Ok` all of them, and at an
-- `Err` those before the page at hand.
pub record SplitsJob {T E : Type 0} (job : List DuePage) (written left : List PageId)
    (result : Result T E) : Type 0 where
  pub splits : Splits (take (length written + length left) (pages_of job)) written left
  pub all : OnOk result (length written + length left ≡ length job)
  pub stops : OnErr result (length written + length left < length job)

-- the pages that the writer was asked to write, in order: those that were written, and after a failure the one
-- at hand
abbrev pub asked_of : {T E : Type 0} → List DuePage → List PageId → List PageId → Result T E → List PageId
asked_of job written left (Ok x) = written
asked_of job written left (Err e) = written ++ take 1 (drop (length written + length left) (pages_of job))
