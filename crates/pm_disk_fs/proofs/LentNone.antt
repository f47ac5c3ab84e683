-- A host that couldn't lend its parts is as it was.
use Rattle.std.proofs.Common.{◌≡◌, ap}
use Rattle.std.proofs.lemmas.Bool.{false≢true}
use Rattle.std.specs.Prelude.{Result, Ok, Err, IsErr}
use Rattle.pm_disk.specs.Lending.{Lends}
use Rattle.pm_disk.specs.States.{DeviceState}

pub lends_none : {T E : Type 0} (before now : DeviceState) (result : Result T E) → IsErr result → now ≡ before → Lends before now result
lends_none before now (Ok value) failed same = absurd (false≢true failed)
lends_none before now (Err fault) failed same = record {
  faults = ap (λ (s : DeviceState). s.faults) same;
  lent = tt;
  unchanged = ap (λ (s : DeviceState). s.access) same;
}
