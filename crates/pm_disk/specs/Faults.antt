-- How the store reports a failed call on the outside.
use Rattle.pm_types.specs.declared.fault.StoreFault.{StoreFault}
use Rattle.pm_types.specs.declared.fault.StoreFault.TheVariants as store
use Rattle.pm_types.specs.declared.fault.PageFault.{PageFault}
use Rattle.pm_types.specs.declared.fault.PageFault.TheVariants as page

-- a failed call, reported by the store
abbrev pub failed_call : StoreFault
failed_call = store.Failed

-- a failed call, reported by a page's call
abbrev pub failed_page : PageFault
failed_page = page.Failed
