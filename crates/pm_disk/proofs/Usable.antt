-- When calls may be made.
use Rattle.std.proofs.Common.{◌≡◌, List, ℕ, refl, sym, subst, ap, ◌∙◌}
use Rattle.std.specs.Prelude.{Ok, false, IsSome}
use Rattle.pm_disk.specs.States.{Access, DeviceState, IsUsable, Binds, BindsFound, MayRead, MayWrite, MayUseAllPages}
use Rattle.pm_types.specs.declared.page_id.PageId.{PageId}

-- once a folder is bound
pub usable-bound : {T E : Type 0} (before now : DeviceState) (folder : List ℕ) (value : T) → before.access.is_lent ≡ false → Binds {T = T} {E = E} before now folder (Ok value) → IsUsable now
usable-bound before now folder value whole binds = record {
  bound = subst (λ (a : Access). IsSome a.folder) (sym binds.bound) refl;
  whole = ap (λ (a : Access). a.is_lent) binds.bound ∙ whole;
}

-- once one that is there is bound
pub usable-found : {T E : Type 0} (before now : DeviceState) (folder : List ℕ) (value : T) → before.access.is_lent ≡ false → BindsFound {T = T} {E = E} before now folder (Ok value) → IsUsable now
usable-found before now folder value whole found = usable-bound before now folder value whole found.binds

-- each page of a whole host
pub may_read : (state : DeviceState) (page : PageId) → MayUseAllPages state → IsUsable state → MayRead state page
may_read state page all usable = record { usable = usable; allowed = all.reads page }

pub may_write : (state : DeviceState) (page : PageId) → MayUseAllPages state → IsUsable state → MayWrite state page
may_write state page all usable = record { usable = usable; allowed = all.writes page }
