-- What asking for a page does to what a worker keeps.
use Rattle.std.specs.Prelude.{◌≡◌, ◌≢◌, ◌⊎◌, ℕ, Bool, true, false, List, Option, None, Result, Ok, IsErrOf}
use Rattle.std.specs.Prelude.{IsSome}
use Rattle.pm_types.specs.declared.page_id.PageId.{PageId}
use Rattle.pm_types.specs.declared.fault.PageFault.{PageFault}
use Rattle.pm_types.specs.declared.fault.PageFault.TheVariants.{BadPage}
use Rattle.pm_locks.specs.Sight.{LockTable}
use Rattle.pm_stripe.specs.Reads.{FailsCheck}
use Rattle.pm_stripe.specs.Kept.{Kept, place_of, IsPageOf, Holds, HasFrames, AreClean, page_bytes, is_known}
use Rattle.pm_stripe.specs.Kept.{AddsPage, TakesPage, IsStaying, IsAway, held_at, bare_count}
use Rattle.pm_stripe.specs.Sights.{KeepsSight}

-- a page of the worker's that no frame keeps
pub record IsUnkept (locks : LockTable) (k : Kept) (id : PageId) : Type 0 where
  pub own : IsPageOf locks.workers k.shape.partitions k.number id
  pub none : place_of k id ≡ None

-- All pages are as they were, where this page is so in its file.
pub record KeepsBeside (k k' : Kept) (id : PageId) (tells : Type 0) (stored : Option (List ℕ)) : Type 0 where
  pub known : (j : PageId) → is_known k j ≡ true → is_known k' j ≡ true
  pub at_hand : (file : PageId → Option (List ℕ)) (j : PageId) → is_known k j ≡ true
      → page_bytes file k' j ≡ page_bytes file k j
  pub clean : tells → (file : PageId → Option (List ℕ)) → file id ≡ stored → AreClean file k → AreClean file k'
  pub told : tells → (file : PageId → Option (List ℕ)) (j : PageId) → file id ≡ stored → AreClean file k
      → page_bytes file k' j ≡ page_bytes file k j

-- A page was sought in its file: at true it is in hand, and passed its check; else nothing more is in hand.
pub record ReadsFrame (locks : LockTable) (k k' : Kept) (id : PageId) (tells : Type 0)
    (stored : Option (List ℕ)) (result : Result Bool PageFault) : Type 0 where
  pub holds : Holds locks k'
  pub frames : HasFrames k'
  pub keeps : KeepsBeside k k' id tells stored
  pub shape : k'.shape ≡ k.shape
  pub number : k'.number ≡ k.number
  pub places : k'.places ≡ k.places
  pub seat : k'.seat ≡ k.seat
  pub only : (j : PageId) → j.0 ≢ id.0 → is_known k' j ≡ is_known k j
  pub bare : bare_count k' ≡ bare_count k
  pub added : result ≡ Ok true → AddsPage k k' id
  pub not_added : (result ≡ Ok true → ⊥) → k'.held ≡ k.held
  pub absent : result ≡ Ok false → tells → stored ≡ None
  pub bad : (named : PageId) → IsErrOf result (BadPage named)
      → (named ≡ id) × (tells → FailsCheck k.shape id stored)

-- A page was asked for: at true it is in hand; at false it is in no frame, and its file doesn't have it.
pub record Fetches (locks : LockTable) (k k' : Kept) (id : PageId) (tells : Type 0) (stored : Option (List ℕ))
    (result : Result Bool PageFault) : Type 0 where
  pub holds : Holds locks k'
  pub frames : HasFrames k'
  pub keeps : KeepsBeside k k' id tells stored
  pub shape : k'.shape ≡ k.shape
  pub number : k'.number ≡ k.number
  pub staying : (j : PageId) → IsStaying k j → IsStaying k' j
  pub back : (j : PageId) → IsStaying k' j → IsStaying k j
  pub only : (j : PageId) → j.0 ≢ id.0 → is_known k' j ≡ is_known k j
  pub bare : bare_count k' ≡ bare_count k
  pub sight : KeepsSight locks k.seat.view k'.seat.view
  pub held : (k'.held ≡ k.held) ⊎ (IsAway k id × AddsPage k k' id)
  pub found : result ≡ Ok true → IsSome (held_at k'.held id.0)
  pub not_found : (result ≡ Ok true → ⊥)
      → (k'.held ≡ k.held) × (held_at k.held id.0 ≡ None) × (place_of k' id ≡ None)
  pub absent : result ≡ Ok false → tells → stored ≡ None
  pub bad : (named : PageId) → IsErrOf result (BadPage named)
      → (named ≡ id) × (tells → FailsCheck k.shape id stored)

-- A page was sought in the frame that keeps it: at true it is in hand, and at false no frame keeps it.
pub record TakesHome (locks : LockTable) (k k' : Kept) (id : PageId) (found : Bool) : Type 0 where
  pub frames : HasFrames k'
  pub takes : TakesPage locks k k' id found
