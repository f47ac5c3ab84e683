-- A folder is bound.
use Rattle.std.proofs.Common.{List, ℕ}
use Rattle.std.specs.Prelude.{◌≡◌, Result, Ok, Err, OnOk, false}
use Rattle.pm_disk.specs.States.{DeviceState, IsUsable, Binds}
use Rattle.pm_disk.proofs.Usable.{usable-bound}
use Rattle.pm_tests_logs.proofs.disks.bind.Goals as goal

usable_on_ok : {T E : Type 0} (before now : DeviceState) (folder : List ℕ) (result : Result T E) → before.access.is_lent ≡ false → Binds before now folder result → OnOk result (IsUsable now)
usable_on_ok before now folder (Ok value) whole binds = usable-bound before now folder value whole binds
usable_on_ok before now folder (Err e) whole binds = tt

pub returns : goal.returns
returns g c = usable_on_ok (g.H.Device.state c.args.host.now) (g.H.Device.state c.bind.new.self) _ c.bind.result c.requires c.bind.ensures.binds
