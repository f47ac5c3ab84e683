-- What a worker does for a scan between two rounds: it looks up the pages in its frames and reads the others.
use Rattle.std.specs.Prelude.{◌<◌, ℕ, Bool, true, false, Result, Ok, Err, IsErrOf}
use Rattle.pm_types.specs.declared.fault.PageFault.TheVariants.{Failed, BadPage}
use Rattle.pm_types.specs.declared.page_id.PageId.{PageId}
use Rattle.pm_types.specs.Counts.{HasRisen}
use Rattle.pm_disk.specs.Moments.{History}
use Rattle.pm_disk.specs.States.{DeviceState}
use Rattle.pm_stripe.specs.declared.bound.Bound.{Bound}
use Rattle.pm_stripe.specs.declared.halt.Halt.{Halt}
use Rattle.pm_stripe.specs.Begins.{IsOwnPart, IsLacking}
use Rattle.pm_engine.specs.declared.frame_scans.ScanStop.{ScanStop}
use Rattle.pm_engine.specs.declared.frame_scans.ScanStop.TheVariants.{Halted, Memory, Faulted}
use Rattle.pm_engine.specs.FrameCommands.{IsSameWorker, IsBetweenLines, ChangesNothing}

-- no page was found bad
abbrev pub ReadsNoBadPage : {T : Type 0} → Result T ScanStop → Type 0
ReadsNoBadPage result = (id : PageId) → IsErrOf result (Faulted (BadPage id)) → ⊥

-- whether more may be done with a store after a scan that was answered so
abbrev pub may_go_on_after : Result (Unit {0}) ScanStop → Bool
may_go_on_after (Ok done) = true
may_go_on_after (Err (Halted halt)) = true
may_go_on_after (Err Memory) = true
may_go_on_after (Err (Faulted fault)) = false

module _ {Q R : Type 0} where
  -- A worker looked pages up, between two lines: no page changed, none is in hand, and nothing was handed over. A line
  -- may follow.
  pub record LooksUp (tells : Type 0) (history : R → History) (state : R → DeviceState) (b c : Bound Q R)
      : Type 0 where
    pub same : IsSameWorker tells history state b c
    pub between : IsBetweenLines tells history state c
    pub nothing : ChangesNothing tells history b c

  -- each partition of the store is the worker's
  abbrev pub OwnsAll : Bound Q R → Type 0
  OwnsAll b = (part : ℕ) → part < b.stripe.shape.partitions → IsOwnPart b part

  -- where the fault is that a call on the disk failed, the count of failed calls rose
  abbrev pub HasScanCause : {T : Type 0} → (R → DeviceState) → Bound Q R → Bound Q R → Result T ScanStop → Type 0
  HasScanCause state b c result =
      IsErrOf result (Faulted Failed) → HasRisen (state b.reader).faults (state c.reader).faults

  -- where it is halted, what it says is lacking
  abbrev pub IsLackingFor : {T : Type 0} → Bound Q R → Bound Q R → Result T ScanStop → Type 0
  IsLackingFor b c result = (halt : Halt) → IsErrOf result (Halted halt) → IsLacking b c (Err halt)
