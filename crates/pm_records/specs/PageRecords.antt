-- What records of pages and of checkpoints may say.
use Rattle.std.specs.Prelude.{ℕ, zero, suc, ◌+◌, ◌^◌, ◌<◌, ◌≤◌, Bool, ◌&&◌, nat_lt, nat_le, ◌==◌, List, length}
use Rattle.pm_types.specs.declared.limits.TheConstants.{PAGE_SIZE_MAX, PATCH_SPANS_MAX}
use Rattle.pm_types.specs.declared.page_id.PageId.{PageId}
use Rattle.pm_types.specs.declared.place.Place.{Place}
use Rattle.pm_types.specs.declared.ranges.TheConstants.{RANGE_HEAD_LEN}
use Rattle.pm_types.specs.DeltaRanges.{start_of, len_of, end_of, after_front, number_of, ranges_of, IsDelta}
use Rattle.pm_types.specs.PageSizes.{IsPageSize, is_page_size}
use Rattle.pm_records.specs.PageNames.{IsPageName, is_page_name}

-- a page as a whole, of one of the five page sizes
pub record IsSnapshot (page : PageId) (bytes : List ℕ) : Type 0 where
  pub named : IsPageName page
  pub sized : IsPageSize (length bytes)

-- ranges of a page; they fit the largest page
pub record IsPageDelta (page : PageId) (ranges : List ℕ) : Type 0 where
  pub named : IsPageName page
  pub ranges_are : IsDelta PAGE_SIZE_MAX ranges

-- checkpoints are numbered from 1, and each number fits its field
pub record IsCpBegin (number : ℕ) (replay : Place) : Type 0 where
  pub from_one : 1 ≤ number
  pub number_fits : number < 2 ^ 64
  pub seg_fits : replay.seg < 2 ^ 64
  pub off_fits : replay.off < 2 ^ 32

-- the same as tests
abbrev pub is_snapshot : PageId → List ℕ → Bool
is_snapshot page bytes = is_page_name page && is_page_size (length bytes)

abbrev pub begins_with_range : ℕ → ℕ → List ℕ → Bool
begins_with_range low end ranges =
    nat_le RANGE_HEAD_LEN (length ranges) && nat_le low (start_of ranges) && nat_le 1 (len_of ranges)
    && nat_le (end_of ranges) end && nat_le (RANGE_HEAD_LEN + len_of ranges) (length ranges)

unfoldable pub are_ranges : ℕ → ℕ → ℕ → List ℕ → Bool
are_ranges zero low end ranges = length ranges == 0
are_ranges (suc number) low end ranges =
    begins_with_range low end ranges && are_ranges number (end_of ranges) end (after_front ranges)

abbrev pub is_delta : List ℕ → Bool
is_delta delta =
    nat_le 1 (number_of delta) && nat_le (number_of delta) PATCH_SPANS_MAX
    && are_ranges (number_of delta) 0 PAGE_SIZE_MAX (ranges_of delta)

abbrev pub is_page_delta : PageId → List ℕ → Bool
is_page_delta page ranges = is_page_name page && is_delta ranges

abbrev pub is_cp_begin : ℕ → Place → Bool
is_cp_begin number replay =
    nat_le 1 number && nat_lt number (2 ^ 64) && nat_lt replay.seg (2 ^ 64) && nat_lt replay.off (2 ^ 32)
