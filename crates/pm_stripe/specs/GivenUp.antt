-- What giving pages in hand up leaves of what a worker keeps.
use Rattle.std.specs.Prelude.{◌≡◌, ℕ, true, false, List, ◌++◌, Option, Some, None, slice_get}
use Rattle.pm_types.specs.declared.page_id.PageId.{PageId}
use Rattle.pm_locks.specs.Sight.{LockTable}
use Rattle.pm_stripe.specs.declared.held.Held.{Held}
use Rattle.pm_stripe.specs.Kept.{Kept, Holds, AreClean, IsStaying, held_at, page_bytes, is_known, bare_count}
use Rattle.pm_stripe.specs.Sights.{KeepsSight}

-- no page in hand was lent to be written
abbrev pub AreUnlent : List Held → Type 0
AreUnlent held = (i : ℕ) (h : Held) → slice_get held i ≡ Some h → h.is_lent ≡ false

-- The last pages in hand are in hand no more, and as many frames keep no page. What is at hand then is as it
-- was, and, where what is Clean is as the files have it, each page is. Of a page that was not in hand nothing
-- changed.
pub record GivesUpHeld (locks : LockTable) (k k' : Kept) : Type 0 where
  pub holds : Holds locks k'
  pub rest : List Held
  pub held : k.held ≡ k'.held ++ rest
  pub bare : bare_count k' ≡ bare_count k
  pub sight : KeepsSight locks k.seat.view k'.seat.view
  pub shape : k'.shape ≡ k.shape
  pub number : k'.number ≡ k.number
  pub staying : (j : PageId) → IsStaying k j → IsStaying k' j
  pub back : (j : PageId) → IsStaying k' j → IsStaying k j
  pub only : (j : PageId) → held_at k.held j.0 ≡ None → is_known k' j ≡ is_known k j
  pub at_hand : (file : PageId → Option (List ℕ)) (j : PageId) → is_known k' j ≡ true
      → page_bytes file k' j ≡ page_bytes file k j
  pub clean : (file : PageId → Option (List ℕ)) → AreClean file k → AreClean file k'
  pub told : (file : PageId → Option (List ℕ)) (j : PageId) → AreClean file k
      → page_bytes file k' j ≡ page_bytes file k j
