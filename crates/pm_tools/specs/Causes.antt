-- Which faults calls answer, and when.
use Rattle.std.specs.Prelude.{◌≤◌, ◌≡◌, Result, IsErrOf, IfErr}
use Rattle.pm_types.specs.declared.fault.StoreFault.{StoreFault}
use Rattle.pm_types.specs.declared.fault.StoreFault.TheVariants.{Failed, Memory, BadPage, BadRecord}
use Rattle.pm_types.specs.declared.page_id.PageId.{PageId}
use Rattle.pm_disk.specs.States.{DeviceState, IsUsable, Rose}

-- a fault of a call on a host or of memory: no record and no page is bad
abbrev pub IsPlainFault : StoreFault → Type 0
IsPlainFault Failed = Unit {0}
IsPlainFault (Memory lack) = Unit {0}
IsPlainFault (BadPage page) = ⊥
IsPlainFault (BadRecord place) = ⊥

-- The count of faults doesn't fall, `Failed` comes only where it rose, and no page is bad.
pub record HasStoreFault {T : Type 0} (before now : DeviceState) (result : Result T StoreFault) : Type 0 where
  pub later : before.faults ≤ now.faults
  pub failed : IsErrOf result Failed → Rose before now
  pub access : now.access ≡ before.access
  pub usable : IsUsable before → IsUsable now
  pub no_page : (page : PageId) → IsErrOf result (BadPage page) → ⊥

-- The same, and no record is bad.
pub record HasPlainFault {T : Type 0} (before now : DeviceState) (result : Result T StoreFault) : Type 0 where
  pub later : before.faults ≤ now.faults
  pub failed : IsErrOf result Failed → Rose before now
  pub access : now.access ≡ before.access
  pub usable : IsUsable before → IsUsable now
  pub plain : IfErr result IsPlainFault

-- The count of faults doesn't fall, and `Failed` comes only where it rose.
pub record HasFault {T : Type 0} (before now : DeviceState) (result : Result T StoreFault) : Type 0 where
  pub later : before.faults ≤ now.faults
  pub failed : IsErrOf result Failed → Rose before now
  pub access : now.access ≡ before.access
  pub usable : IsUsable before → IsUsable now
