-- Pages at hand that read as what they say, of all partitions of a worker.
use Rattle.std.specs.Prelude.{◌≡◌, ℕ, ◌%◌, ◌<◌, [], List, Option, IfSome, IsTrue}
use Rattle.pm_types.specs.declared.page_id.PageId.{PageId}
use Rattle.pm_disk.specs.Moments.{History}
use Rattle.pm_disk.specs.States.{DeviceState}
use Rattle.pm_pages.specs.Paged.{AllReadable}
use Rattle.pm_locks.specs.Sight.{Sight, LockTable}
use Rattle.pm_stripe.specs.declared.bound.Bound.{Bound}
use Rattle.pm_stripe.specs.declared.stripe.Stripe.{Stripe}
use Rattle.pm_stripe.specs.Begins.{MakesReady}
use Rattle.pm_stripe.specs.Dones.{EndsOperation}
use Rattle.pm_stripe.specs.Ends.{EndsRound}
use Rattle.pm_stripe.specs.Kept.{Kept, Holds, IsPageOf, IsStaying, is_known, page_bytes}
use Rattle.pm_stripe.specs.Reads.{Reads}
use Rattle.pm_stripe.specs.Shown.{paged, shown, kept_by, file_by, IsReady, KeepsBound}
use Rattle.pm_stripe.specs.Stripes.{kept, file_of}

-- each page at hand that is the worker's, of whatever partition, reads as what it says
abbrev pub ReadsAtHand : (PageId → Option (List ℕ)) → ℕ → Kept → Type 0
ReadsAtHand file workers k = (id : PageId) → IsPageOf workers k.shape.partitions k.number id
    → IsTrue (is_known k id) → IfSome (page_bytes file k id) (Reads id)

-- the same of a stripe that is bound
abbrev pub BoundReadsAtHand : {Q R : Type 0} → (R → History) → Bound Q R → Type 0
BoundReadsAtHand history b = ReadsAtHand (file_by history b) b.locks.now.workers (kept_by b)

-- It is so where each partition is, and where no page is in hand and none stays in its frame; and then each partition
-- is so.
pub record ReadsByParts : Type 0 where
  pub parts : (file : PageId → Option (List ℕ)) (faults workers : ℕ) (k : Kept)
      → ((part : ℕ) → part < k.shape.partitions → part % workers ≡ k.number
      → AllReadable (paged file faults part k)) → ReadsAtHand file workers k
  pub none : (file : PageId → Option (List ℕ)) (workers : ℕ) (k : Kept) → k.held ≡ []
      → ((id : PageId) → IsStaying k id → ⊥) → ReadsAtHand file workers k
  pub shown : (file : PageId → Option (List ℕ)) (faults : ℕ) (locks : LockTable) (k : Kept) → Holds locks k
      → ReadsAtHand file locks.workers k → (part : ℕ) → AllReadable (paged file faults part k)

-- It stays so where pages are made ready, where code over any pages left those of the partition that is meant so,
-- and where an operation or a round ends.
pub record KeepsReading (Q R : Type 0) (tells : Type 0) (history : R → History) (state : R → DeviceState)
    : Type 0 where
  pub ready : (b c : Bound Q R) → MakesReady tells history state b c → BoundReadsAtHand history b
      → BoundReadsAtHand history c
  pub calls : (b c : Bound Q R) → IsReady tells history state b → KeepsBound tells history state b c
      → AllReadable (shown history state c) → BoundReadsAtHand history b → BoundReadsAtHand history c
  pub done : (b c : Bound Q R) → EndsOperation tells history state b c → BoundReadsAtHand history b
      → BoundReadsAtHand history c
  pub end : (b : Bound Q R) (s : Stripe) (seat : Sight) → EndsRound tells history b s seat
      → BoundReadsAtHand history b → ReadsAtHand (file_of s (history b.reader)) b.locks.now.workers (kept s seat)
