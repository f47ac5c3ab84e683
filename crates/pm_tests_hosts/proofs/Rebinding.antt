-- Calls may be made once a folder is bound, and still when another one is.
use Rattle.std.proofs.Common.{List, ℕ, sym, subst, ap, ◌∙◌}
use Rattle.std.specs.Prelude.{◌≡◌, Result, Ok, Err, OnOk, false, IsSome}
use Rattle.pm_disk.specs.States.{Access, DeviceState, IsUsable, Binds}
use Rattle.pm_disk.proofs.Usable.{usable-bound}

pub usable_rebound : {T E : Type 0} (before now : DeviceState) (folder : List ℕ) (result : Result T E) → IsUsable before → Binds before now folder result → IsUsable now
usable_rebound before now folder (Ok value) usable binds = usable-bound before now folder value usable.whole binds
usable_rebound before now folder (Err e) usable binds = record {
  bound = subst (λ (a : Access). IsSome a.folder) (sym binds.unchanged) usable.bound;
  whole = ap (λ (a : Access). a.is_lent) binds.unchanged ∙ usable.whole;
}

pub usable_on_ok : {T E : Type 0} (before now : DeviceState) (folder : List ℕ) (result : Result T E) → before.access.is_lent ≡ false → Binds before now folder result → OnOk result (IsUsable now)
usable_on_ok before now folder (Ok value) whole binds = usable-bound before now folder value whole binds
usable_on_ok before now folder (Err e) whole binds = tt
