-- What contracts see of a stripe and of one that is bound to a seat.
use Rattle.std.specs.Prelude.{◌≡◌, ℕ, ◌≤◌, Bool, false, List, [], length, None}
use Rattle.std.specs.Prelude.{if◌then◌else◌, Option}
use Rattle.std.specs.FinMap as map
use Rattle.std.specs.Vec.{vec_capacity}
use Rattle.pm_types.specs.declared.limits.TheConstants.{OP_PAGES}
use Rattle.pm_types.specs.declared.page_id.PageId.{PageId}
use Rattle.pm_types.specs.declared.shape.Shape.{Shape}
use Rattle.pm_disk.specs.Moments.{History}
use Rattle.pm_disk.specs.States.{DeviceState, IsUsable}
use Rattle.pm_disk.specs.Worlds.{World}
use Rattle.pm_locks.specs.Sight.{Sight, LockTable}
use Rattle.pm_stripe.specs.declared.stripe.Stripe.{Stripe}
use Rattle.pm_stripe.specs.Reads.{stored}
use Rattle.pm_stripe.specs.Kept.{Kept, IsPageOf, IsStaying, Holds}

-- what a stripe keeps of its pages, with this seat
abbrev pub kept : Stripe → Sight → Kept
kept s seat = record {
  number = s.number;
  shape = s.shape;
  places = s.places;
  seat = seat;
  held = s.held.items;
  held_room = vec_capacity s.held;
  free = s.free.items;
  free_room = vec_capacity s.free;
}

-- A stripe without a page, over so many frames.
pub record IsNewStripe (number : ℕ) (shape : Shape) (frames : ℕ) (files : Bool) (s : Stripe) : Type 0 where
  pub number_is : s.number ≡ number
  pub shape_is : s.shape ≡ shape
  pub files_are : s.files ≡ files
  pub no_page : s.places.table.entries ≡ map.empty
  pub many : length s.places.pages.items ≡ frames
  pub none_held : s.held.items ≡ []
  pub held_room : OP_PAGES ≤ vec_capacity s.held
  pub none_free : s.free.items ≡ []
  pub free_room : OP_PAGES ≤ vec_capacity s.free
  pub sweeps_from : s.next ≡ 0
  pub rests : s.is_running ≡ false
  pub none_logged : s.outbox ≡ []

-- all but its outbox is as it was
pub record SameButOutbox (s t : Stripe) : Type 0 where
  pub number : t.number ≡ s.number
  pub shape : t.shape ≡ s.shape
  pub files : t.files ≡ s.files
  pub places : t.places ≡ s.places
  pub held : t.held ≡ s.held
  pub free : t.free ≡ s.free
  pub next : t.next ≡ s.next
  pub is_running : t.is_running ≡ s.is_running

-- all but whether the partitions' files have pages is as it was
pub record SameButFiles (s t : Stripe) : Type 0 where
  pub number : t.number ≡ s.number
  pub shape : t.shape ≡ s.shape
  pub places : t.places ≡ s.places
  pub held : t.held ≡ s.held
  pub free : t.free ≡ s.free
  pub next : t.next ≡ s.next
  pub is_running : t.is_running ≡ s.is_running
  pub outbox : t.outbox ≡ s.outbox

-- all but whether a checkpoint runs is as it was
pub record SameButRunning (s t : Stripe) : Type 0 where
  pub number : t.number ≡ s.number
  pub shape : t.shape ≡ s.shape
  pub files : t.files ≡ s.files
  pub places : t.places ≡ s.places
  pub held : t.held ≡ s.held
  pub free : t.free ≡ s.free
  pub next : t.next ≡ s.next
  pub outbox : t.outbox ≡ s.outbox

-- all but the pages is as it was
pub record SameButPages (s t : Stripe) : Type 0 where
  pub number : t.number ≡ s.number
  pub shape : t.shape ≡ s.shape
  pub files : t.files ≡ s.files
  pub next : t.next ≡ s.next
  pub is_running : t.is_running ≡ s.is_running
  pub outbox : t.outbox ≡ s.outbox

-- all but the pages, the frames in hand and where the next sweep begins is as it was
pub record SameButFrames (s t : Stripe) : Type 0 where
  pub number : t.number ≡ s.number
  pub shape : t.shape ≡ s.shape
  pub files : t.files ≡ s.files
  pub is_running : t.is_running ≡ s.is_running
  pub outbox : t.outbox ≡ s.outbox

-- what the partitions' files have, as far as the stripe reads them
abbrev pub file_in : Stripe → World → PageId → Option (List ℕ)
file_in s world id = if s.files then stored world s.shape.page_size id else None

abbrev pub file_of : Stripe → History → PageId → Option (List ℕ)
file_of s history = file_in s history.world

-- nothing is in hand, as between two rounds
pub record IsAtRest (locks : LockTable) (k : Kept) : Type 0 where
  pub holds : Holds locks k
  pub none_held : k.held ≡ []
  pub none_free : k.free ≡ []

-- the reader may read each page of the worker's that isn't in such a frame
pub record MayReadOthers (workers : ℕ) (state : DeviceState) (k : Kept) : Type 0 where
  pub usable : IsUsable state
  pub others : (id : PageId) → IsPageOf workers k.shape.partitions k.number id
      → state.access.reads id ≡ false → IsStaying k id
