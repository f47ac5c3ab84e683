-- The pages that stay in their frames between two rounds are those that the next checkpoint writes.
use Rattle.std.specs.Prelude.{◌≡◌, ◌↔◌, ℕ, true, List, length, slice_get, Option, Some}
use Rattle.pm_types.specs.declared.page_id.PageId.{PageId}
use Rattle.pm_types.specs.declared.shape.Shape.{Shape}
use Rattle.pm_types.specs.Ids.{part_of_id, index_of_id}
use Rattle.pm_locks.specs.Sight.{Sight, LockTable}
use Rattle.pm_core.specs.PageSets.{AreOnce, has_index}
use Rattle.pm_stripe.specs.Kept.{IsPageOf, IsStaying, page_bytes}
use Rattle.pm_stripe.specs.Readable.{ReadsAtHand}
use Rattle.pm_stripe.specs.Stripes.{kept, SameButFiles}
use Rattle.pm_stripe.specs.declared.stripe.Stripe.{Stripe}
use Rattle.pm_ckpt.specs.Dirty.{dirty_pages, dirty_held, AreReading, AreResting}
use Rattle.pm_ckpt.specs.Frames.{IsWholeSeat}

-- each page at hand of each worker's reads as what it says
abbrev pub AllReadAtHand : (Stripe → PageId → Option (List ℕ)) → LockTable → Sight → List Stripe → Type 0
AllReadAtHand file locks seat stripes = (n : ℕ) (stripe : Stripe) → slice_get stripes n ≡ Some stripe
    → ReadsAtHand (file stripe) locks.workers (kept stripe seat)

-- The pages in Dirty frames, each named once, are those that stay in their frames, with the bytes that are seen of
-- them. They read as what they say where all pages at hand do.
pub record ListsStaying (locks : LockTable) (shape : Shape) (seat : Sight) (stripes : List Stripe) : Type 0 where
  pub once : AreOnce (dirty_pages locks stripes seat.view)
  pub listed : (n : ℕ) (stripe : Stripe) (id : PageId) → slice_get stripes n ≡ Some stripe
      → IsPageOf locks.workers shape.partitions n id
      → (has_index (part_of_id id) (index_of_id id) (dirty_pages locks stripes seat.view) ≡ true)
      ↔ IsStaying (kept stripe seat) id
  pub bytes : (n : ℕ) (stripe : Stripe) (id : PageId) → slice_get stripes n ≡ Some stripe
      → IsPageOf locks.workers shape.partitions n id → IsStaying (kept stripe seat) id
      → (file : PageId → Option (List ℕ)) → dirty_held locks stripes seat.view (part_of_id id) (index_of_id id)
      ≡ page_bytes file (kept stripe seat) id
  pub reading : (file : Stripe → PageId → Option (List ℕ)) → AllReadAtHand file locks seat stripes
      → AreReading (dirty_held locks stripes seat.view) (dirty_pages locks stripes seat.view)

-- it is so of whatever stripes rest
abbrev pub DirtyFramesStay : Type 0
DirtyFramesStay = (locks : LockTable) (shape : Shape) (seat : Sight) (stripes : List Stripe)
    → AreResting locks shape seat stripes → IsWholeSeat locks seat → ListsStaying locks shape seat stripes

-- stripes that rest do so still once they are told that the files have pages
abbrev pub StripesStayAtRest : Type 0
StripesStayAtRest = (locks : LockTable) (shape : Shape) (seat : Sight) (before after : List Stripe)
    → length after ≡ length before
    → ((n : ℕ) (s t : Stripe) → slice_get before n ≡ Some s → slice_get after n ≡ Some t
    → SameButFiles s t × (t.files ≡ true))
    → AreResting locks shape seat before → AreResting locks shape seat after
