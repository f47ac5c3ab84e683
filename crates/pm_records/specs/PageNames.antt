-- Names of pages that a store may have.
--
--     bits  field
--     0-31  the page's index in its partition
--    32-47  the partition, below 64
--    48-55  the flag, which is 1
--    56-63  zero
use Rattle.std.specs.Prelude.{◌≡◌, ◌/◌, ◌^◌, ◌<◌, Bool, ◌&&◌, nat_lt, ◌==◌}
use Rattle.pm_types.specs.declared.limits.TheConstants.{PARTITIONS_MAX}
use Rattle.pm_types.specs.declared.page_id.PageId.{PageId}
use Rattle.pm_types.specs.Ids.{part_of_id}

-- the bits from 48 on are the flag alone, and a store may have the partition
pub record IsPageName (page : PageId) : Type 0 where
  pub flag : page.0 / 2 ^ 48 ≡ 1
  pub partition : part_of_id page < PARTITIONS_MAX

-- the same as a test
abbrev pub is_page_name : PageId → Bool
is_page_name page = page.0 / 2 ^ 48 == 1 && nat_lt (part_of_id page) PARTITIONS_MAX
