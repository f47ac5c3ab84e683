-- What holds of a stripe that is bound to a seat and a reader.
use Rattle.std.specs.Prelude.{◌≡◌, ◌≤◌}
use Rattle.pm_types.specs.declared.limits.TheConstants.{OP_PAGES}
use Rattle.pm_disk.specs.Moments.{History}
use Rattle.pm_disk.specs.States.{DeviceState}
use Rattle.pm_stripe.specs.declared.bound.Bound.{Bound}
use Rattle.pm_stripe.specs.Kept.{Holds, AreClean, bare_count}
use Rattle.pm_stripe.specs.Stripes.{kept, file_of, MayReadOthers, SameButOutbox}

module _ {Q R : Type 0} where
  -- What holds between any two calls, where the reader tells its content, and of which history and state it is.
  pub record IsBound (tells : Type 0) (history : R → History) (state : R → DeviceState) (b : Bound Q R)
      : Type 0 where
    pub holds : Holds b.locks.now (kept b.stripe b.seat)
    pub reads : MayReadOthers b.locks.now.workers (state b.reader) (kept b.stripe b.seat)
    pub clean : tells → AreClean (file_of b.stripe (history b.reader)) (kept b.stripe b.seat)
    -- no more frames in hand keep no page than one operation may need
    pub few : bare_count (kept b.stripe b.seat) ≤ OP_PAGES

  -- all but the outbox is as it was
  pub record SameButSent (b c : Bound Q R) : Type 0 where
    pub locks : c.locks ≡ b.locks
    pub stripe : SameButOutbox b.stripe c.stripe
    pub seat : c.seat ≡ b.seat
    pub reader : c.reader ≡ b.reader
    pub part : c.part ≡ b.part
    pub is_ready : c.is_ready ≡ b.is_ready

  -- all but the partition that is meant is as it was
  pub record SameButPart (b c : Bound Q R) : Type 0 where
    pub locks : c.locks ≡ b.locks
    pub stripe : c.stripe ≡ b.stripe
    pub seat : c.seat ≡ b.seat
    pub reader : c.reader ≡ b.reader
    pub is_ready : c.is_ready ≡ b.is_ready
