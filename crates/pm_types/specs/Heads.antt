-- What every page begins with.
use Rattle.std.specs.Prelude.{◌≡◌, ℕ, List, length, slice_index}
use Rattle.pm_types.specs.PageSizes.{IsPageSize}
use Rattle.pm_types.specs.declared.head.TheConstants.{KIND_AT}
use Rattle.pm_types.specs.declared.page_id.PageId.{PageId}
use Rattle.pm_types.specs.Fields.{u64_at, AreZero}

-- a page of this name and kind, and else of zeros
pub record IsBlank (id : PageId) (kind : ℕ) (page : List ℕ) : Type 0 where
  pub size : IsPageSize (length page)
  pub own : u64_at page 0 ≡ id.0
  pub kind_is : slice_index page KIND_AT ≡ kind
  pub zeros : AreZero page 9 (length page)
