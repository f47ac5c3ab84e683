-- How the next layer reports a fault of one below.
use Rattle.pm_types.specs.declared.fault.StoreFault.{StoreFault}
use Rattle.pm_types.specs.declared.fault.StoreFault.TheVariants as store
use Rattle.pm_types.specs.declared.fault.Lack.TheVariants.{Bytes}
use Rattle.pm_types.specs.declared.fault.PageFault.{PageFault}
use Rattle.pm_types.specs.declared.fault.PageFault.TheVariants as page
use Rattle.pm_types.specs.declared.fault.OpenFault.{OpenFault}
use Rattle.pm_types.specs.declared.fault.OpenFault.TheVariants as opening

-- a page's fault, as the store reports it
abbrev pub store_fault_of : PageFault → StoreFault
store_fault_of page.Failed = store.Failed
store_fault_of (page.BadPage id) = store.BadPage id

-- out of memory, as the store reports it
abbrev pub memory_fault : StoreFault
memory_fault = store.Memory Bytes

-- the store's fault, as an opening reports it
abbrev pub opening_fault : StoreFault → OpenFault
opening_fault fault = opening.Store fault

-- out of memory, as an opening reports it
abbrev pub opening_memory : OpenFault
opening_memory = opening.Store (store.Memory Bytes)
