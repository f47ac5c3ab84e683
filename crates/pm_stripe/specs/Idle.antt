-- A worker between two operations on one partition.
use Rattle.std.specs.Prelude.{◌≡◌, []}
use Rattle.pm_disk.specs.Moments.{History}
use Rattle.pm_disk.specs.States.{DeviceState}
use Rattle.pm_pages.specs.Paged.{AllReadable}
use Rattle.pm_stripe.specs.declared.bound.Bound.{Bound}
use Rattle.pm_stripe.specs.Begins.{IsOwnPart}
use Rattle.pm_stripe.specs.Bounds.{IsBound}
use Rattle.pm_stripe.specs.Shown.{shown}

module _ {Q R : Type 0} where
  -- No page is in hand, the partition that is meant is the worker's, and each of its pages at hand reads as what it
  -- says: code over any pages may be run once pages are made ready.
  pub record IsIdle (tells : Type 0) (history : R → History) (state : R → DeviceState) (b : Bound Q R) : Type 0 where
    pub bound : IsBound tells history state b
    pub none_held : b.stripe.held.items ≡ []
    pub part : IsOwnPart b b.part
    pub readable : AllReadable (shown history state b)
