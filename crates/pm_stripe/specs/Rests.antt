-- A new stripe, the seat with which the locks begin, and a stripe whose files have pages.
use Rattle.std.specs.Prelude.{◌≡◌, ℕ, ◌<◌, ◌≤◌, Bool, true, List, length}
use Rattle.pm_types.specs.declared.page_id.PageId.{PageId}
use Rattle.pm_types.specs.declared.shape.Shape.{Shape}
use Rattle.pm_types.specs.Shapes.{IsShape}
use Rattle.pm_region.specs.Lease.{Leased}
use Rattle.pm_disk.specs.Worlds.{World}
use Rattle.pm_locks.specs.Opening.{first_view}
use Rattle.pm_locks.specs.Sight.{Sight, LockTable, IsSeatOf, HasPageSize}
use Rattle.pm_locks.specs.Words.{FLUSHER}
use Rattle.pm_stripe.specs.declared.stripe.Stripe.{Stripe}
use Rattle.pm_stripe.specs.Kept.{AreClean}
use Rattle.pm_stripe.specs.Reads.{stored}
use Rattle.pm_stripe.specs.Sights.{AreSettled}
use Rattle.pm_stripe.specs.Stripes.{kept, file_in, IsNewStripe, IsAtRest, SameButFiles}

-- The locks began with these leases, each as long as a page of the shape, and this seat knows what the first
-- one does. The number is one of their workers'.
pub record BeginsWith (locks : LockTable) (seat : Sight) (leases : List Leased) (shape : Shape) (number : ℕ)
    : Type 0 where
  pub shaped : IsShape shape
  pub sized : HasPageSize locks shape.page_size
  pub seat_of : IsSeatOf locks seat
  pub first : seat.view ≡ first_view locks.workers leases
  pub below : number < locks.workers
  pub few : locks.workers ≤ FLUSHER

-- a new stripe over as many frames may be bound to that seat
abbrev pub NewStripesRest : Type 0
NewStripesRest = (locks : LockTable) (seat : Sight) (leases : List Leased) (shape : Shape) (number : ℕ)
    (files : Bool) (s : Stripe) → BeginsWith locks seat leases shape number
    → IsNewStripe number shape (length locks.ranges) files s → IsAtRest locks (kept s seat)

-- by that seat no checkpoint has to write a frame
abbrev pub FirstSeatsSettle : Type 0
FirstSeatsSettle = (locks : LockTable) (seat : Sight) (leases : List Leased) (shape : Shape) (number : ℕ)
    → BeginsWith locks seat leases shape number → AreSettled locks seat.view

-- The stripe keeps the pages that it kept: where it was at rest it is so still. A page that isn't in a frame is as its
-- file has it, and what is Clean is so where it was as the files have it.
pub record RestsOnFiles (s t : Stripe) (seat : Sight) : Type 0 where
  pub pages : kept t seat ≡ kept s seat
  pub rest : (locks : LockTable) → IsAtRest locks (kept s seat) → IsAtRest locks (kept t seat)
  pub files : (world : World) (id : PageId) → file_in t world id ≡ stored world t.shape.page_size id
  pub clean : (world : World) → AreClean (stored world s.shape.page_size) (kept s seat)
      → AreClean (file_in t world) (kept t seat)

-- a stripe may be told between two rounds that the files have pages
abbrev pub StripesRestOnFiles : Type 0
StripesRestOnFiles = (s t : Stripe) (seat : Sight) → SameButFiles s t → t.files ≡ true → RestsOnFiles s t seat
