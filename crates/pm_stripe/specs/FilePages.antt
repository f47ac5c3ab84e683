-- Pages in hand that were read from their files.
use Rattle.std.specs.Prelude.{◌≡◌, ℕ, true, false, Some, slice_get}
use Rattle.pm_disk.specs.Moments.{History}
use Rattle.pm_disk.specs.States.{DeviceState}
use Rattle.pm_stripe.specs.declared.bound.Bound.{Bound}
use Rattle.pm_stripe.specs.declared.held.Held.{Held}
use Rattle.pm_stripe.specs.Bounds.{IsBound}
use Rattle.pm_stripe.specs.Reads.{Passes}

-- Each passes its check, until it is lent to be written.
pub record FilePagesPass (Q R : Type 0) (tells : Type 0) (history : R → History) (state : R → DeviceState)
    : Type 0 where
  pub passes : (b : Bound Q R) → IsBound tells history state b → (i : ℕ) (h : Held)
      → slice_get b.stripe.held.items i ≡ Some h → h.is_read ≡ true → h.is_lent ≡ false
      → Passes b.stripe.shape h.page h.lease.bytes
