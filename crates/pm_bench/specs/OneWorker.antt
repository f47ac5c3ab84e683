-- What one worker, whose seat stands for all numbers, carries through rounds and checkpoints.
use Rattle.std.specs.Prelude.{◌≡◌, [], ◌∷◌, true}
use Rattle.pm_types.specs.declared.page_id.PageId.{PageId}
use Rattle.pm_disk.specs.Moments.{History}
use Rattle.pm_disk.specs.States.{DeviceState, IsUsable}
use Rattle.pm_locks.specs.Sight.{Sight, LockTable}
use Rattle.pm_stripe.specs.Kept.{AreClean}
use Rattle.pm_stripe.specs.Readable.{ReadsAtHand}
use Rattle.pm_stripe.specs.Stripes.{kept, file_of}
use Rattle.pm_stripe.specs.declared.stripe.Stripe.{Stripe}
use Rattle.pm_ckpt.specs.Dirty.{AreResting}
use Rattle.pm_ckpt.specs.Frames.{IsWholeSeat}

-- Between two calls that take the host: the seat knows each frame's word and has nothing out, the stripe rests, each
-- page at hand reads as what it says, and the host reads each page. Where it tells its content what is Clean is as the
-- files have it.
pub record IsBetween (tells : Type 0) (history : History) (state : DeviceState) (locks : LockTable) (seat : Sight)
    (stripe : Stripe) : Type 0 where
  pub seat_of : IsWholeSeat locks seat
  pub rests : AreResting locks stripe.shape seat (stripe ∷ [])
  pub clean : tells → AreClean (file_of stripe history) (kept stripe seat)
  pub reads : ReadsAtHand (file_of stripe history) locks.workers (kept stripe seat)
  pub usable : IsUsable state
  pub each : (id : PageId) → state.access.reads id ≡ true
