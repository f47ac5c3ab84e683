-- What a call on one page leaves of what a worker keeps.
use Rattle.std.specs.Prelude.{◌≡◌, ◌≢◌, ℕ, ◌⊎◌, ◌%◌, ◌<◌, true, List, Option, Some, slice_get}
use Rattle.pm_types.specs.declared.limits.TheConstants.{OP_PAGES}
use Rattle.pm_types.specs.declared.page_id.PageId.{PageId}
use Rattle.pm_types.specs.Ids.{part_of_id}
use Rattle.pm_locks.specs.Sight.{LockTable}
use Rattle.pm_stripe.specs.declared.held.Held.{Held}
use Rattle.pm_stripe.specs.Bases.{KeepsBases}
use Rattle.pm_stripe.specs.Kept.{Kept, Holds, HasFrames, AreClean, IsStaying, page_bytes, is_known, bare_count}

-- a page in hand has this name
pub record IsNamedIn (held : List Held) (id : PageId) : Type 0 where
  pub place : ℕ
  pub page : Held
  pub at : slice_get held place ≡ Some page
  pub is : page.page ≡ id

-- Page `id` was brought into hand, lent, written or noted, or sought in vain. All else is as it was: what is
-- at hand, and, where the files' content is told and what is Clean is as they have it, each other page.
pub record ChangesOnePage (locks : LockTable) (tells : Type 0) (file : PageId → Option (List ℕ)) (k k' : Kept)
    (id : PageId) : Type 0 where
  pub holds : Holds locks k'
  pub frames : HasFrames k'
  pub bare : bare_count k' ≡ bare_count k
  pub shape : k'.shape ≡ k.shape
  pub number : k'.number ≡ k.number
  pub staying : (j : PageId) → IsStaying k j → IsStaying k' j
  pub bases : KeepsBases k.shape.page_size (tells × AreClean file k) file file k k'
  pub only : (j : PageId) → j.0 ≢ id.0 → is_known k' j ≡ is_known k j
  pub names : (i : ℕ) (h : Held) → slice_get k'.held i ≡ Some h → (h.page ≡ id) ⊎ IsNamedIn k.held h.page
  pub clean : tells → AreClean file k → AreClean file k'
  pub told : tells → AreClean file k → (j : PageId) → j.0 ≢ id.0
      → page_bytes file k' j ≡ page_bytes file k j
  pub at_hand : (j : PageId) → j.0 ≢ id.0 → is_known k j ≡ true → page_bytes file k' j ≡ page_bytes file k j

-- each page in hand is of this partition
abbrev pub AreOfPart : ℕ → List Held → Type 0
AreOfPart part held = (i : ℕ) (h : Held) → slice_get held i ≡ Some h → part_of_id h.page ≡ part

-- An operation on this partition, which is one of the worker's, has the frames that it may need.
pub record HasOperation (locks : LockTable) (part : ℕ) (k : Kept) : Type 0 where
  pub frames : HasFrames k
  -- the frames in hand that keep no page are as many as `ready` stole
  pub bare : bare_count k ≡ OP_PAGES
  pub there : part < k.shape.partitions
  pub own : part % locks.workers ≡ k.number
  pub alone : AreOfPart part k.held
