-- Empty frames in hand are put back.
use Rattle.std.specs.Prelude.{◌≡◌, ◌≢◌, ℕ, List, ◌++◌, Option, Some, slice_get}
use Rattle.pm_types.specs.declared.flag.Flag.TheVariants as flag
use Rattle.pm_types.specs.declared.page_id.PageId.{PageId}
use Rattle.pm_locks.specs.declared.view.Entry.{Entry}
use Rattle.pm_locks.specs.Sight.{LockTable}
use Rattle.pm_stripe.specs.declared.held.Free.{Free}
use Rattle.pm_stripe.specs.Kept.{Kept, place_of, last_put, page_bytes, is_known, Holds, AreClean, IsStaying}
use Rattle.pm_stripe.specs.Sights.{KeepsSight}

-- An empty frame that was in hand was put back as Empty.
pub record IsPutEmpty (k : Kept) (s : Free) : Type 0 where
  pub entry : Entry
  pub at : last_put k s.frame ≡ Some entry
  pub flag_is : entry.flag ≡ flag.Empty

-- The last empty frames in hand were put back, as Empty; all other frames are as they were. Each page is as
-- it was, in the frame that keeps it, and what is at hand is so still.
pub record FreesFrames (locks : LockTable) (k k' : Kept) : Type 0 where
  pub holds : Holds locks k'
  pub rest : List Free
  pub free : k.free ≡ k'.free ++ rest
  pub held : k'.held ≡ k.held
  pub shape : k'.shape ≡ k.shape
  pub number : k'.number ≡ k.number
  pub places : k'.places ≡ k.places
  pub sight : KeepsSight locks k.seat.view k'.seat.view
  pub empty : (i : ℕ) (s : Free) → slice_get rest i ≡ Some s → IsPutEmpty k' s
  pub put_else : (f : ℕ) → ((i : ℕ) (s : Free) → slice_get rest i ≡ Some s → s.frame ≢ f)
      → last_put k' f ≡ last_put k f
  pub puts : (id : PageId) (f tag : ℕ) → place_of k id ≡ Some (f, tag) → last_put k' f ≡ last_put k f
  pub known : (id : PageId) → is_known k' id ≡ is_known k id
  pub staying : (id : PageId) → IsStaying k id → IsStaying k' id
  pub pages : (file : PageId → Option (List ℕ)) (id : PageId) → page_bytes file k' id ≡ page_bytes file k id
  pub clean : (file : PageId → Option (List ℕ)) → AreClean file k → AreClean file k'
