-- What is left where a worker forgets which frames keep its pages.
use Rattle.std.specs.Prelude.{◌≡◌, ℕ, List, [], Some, None, Option}
use Rattle.pm_types.specs.declared.page_id.PageId.{PageId}
use Rattle.pm_disk.specs.States.{DeviceState}
use Rattle.pm_locks.specs.Sight.{LockTable}
use Rattle.pm_locks.specs.Words.{IsSpare}
use Rattle.pm_locks.specs.declared.view.Entry.{Entry}
use Rattle.pm_stripe.specs.Kept.{Kept, place_of, last_put, page_bytes, AreClean, Holds}
use Rattle.pm_stripe.specs.Stripes.{IsAtRest, MayReadOthers}

-- What the number last put into each frame that keeps a page is Empty or Clean.
pub record AreSpare (k : Kept) : Type 0 where
  pub each : (id : PageId) (f tag : ℕ) (e : Entry) → place_of k id ≡ Some (f, tag) → last_put k f ≡ Some e
      → IsSpare e.flag

-- No frame keeps a page. A stripe that was at rest is so still, and may be bound again with the same reader.
-- Each page is as it was, where what is Clean is as the files have it.
pub record ForgetsPages (k k' : Kept) : Type 0 where
  pub none : (id : PageId) → place_of k' id ≡ None
  pub rest : (locks : LockTable) → IsAtRest locks k → IsAtRest locks k'
  pub reads : (workers : ℕ) (state : DeviceState) → MayReadOthers workers state k
      → MayReadOthers workers state k'
  pub clean : (file : PageId → Option (List ℕ)) → k.held ≡ [] → AreClean file k'
  pub pages : (locks : LockTable) (file : PageId → Option (List ℕ)) (id : PageId) → Holds locks k
      → AreClean file k → page_bytes file k' id ≡ page_bytes file k id
