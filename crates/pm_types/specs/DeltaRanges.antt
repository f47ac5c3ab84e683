-- The ranges of a page that a delta carries. Numbers are little-endian.
--
--   offset  size  field
--        0     1  number of ranges, 1 to 8
--        1     2  where the first range begins, in bytes from the page's start
--        3     2  how many bytes n it has, at least 1
--        5     n  its bytes
--    5 + n     2  where the second range begins, and so on; nothing follows the last
--
-- Ranges rise and don't overlap. Each ends at 16,384 at most, and one that is applied to a page ends within it.
use Rattle.std.specs.Prelude.{◌≡◌, ℕ, zero, suc, ◌+◌, ◌≤◌, List, [], length, drop, slice_index}
use Rattle.std.specs.List.{splice}
use Rattle.pm_types.specs.declared.limits.TheConstants.{PATCH_SPANS_MAX}
use Rattle.pm_types.specs.Fields.{bytes_at, u16_at}
use Rattle.pm_types.specs.declared.ranges.TheConstants.{RANGE_HEAD_LEN}

-- where the range at the front begins
abbrev pub start_of : List ℕ → ℕ
start_of ranges = u16_at ranges 0

-- how many bytes the range at the front has
abbrev pub len_of : List ℕ → ℕ
len_of ranges = u16_at ranges 2

-- where the range at the front ends
abbrev pub end_of : List ℕ → ℕ
end_of ranges = start_of ranges + len_of ranges

-- the bytes of the range at the front
abbrev pub front_bytes : List ℕ → List ℕ
front_bytes ranges = bytes_at ranges RANGE_HEAD_LEN (len_of ranges)

-- what follows the range at the front
abbrev pub after_front : List ℕ → List ℕ
after_front ranges = drop (RANGE_HEAD_LEN + len_of ranges) ranges

-- a range is at the front, whole; it has a byte, begins at `low` or after it, and ends at `end` or before it
pub record BeginsWithRange (low end : ℕ) (ranges : List ℕ) : Type 0 where
  pub head : RANGE_HEAD_LEN ≤ length ranges
  pub rises : low ≤ start_of ranges
  pub some : 1 ≤ len_of ranges
  pub within : end_of ranges ≤ end
  pub whole : RANGE_HEAD_LEN + len_of ranges ≤ length ranges

-- these are so many ranges and nothing else; they rise from `low` on, and none ends past `end`
abbrev pub AreRanges : ℕ → ℕ → ℕ → List ℕ → Type 0
AreRanges zero low end ranges = ranges ≡ []
AreRanges (suc number) low end ranges =
    BeginsWithRange low end ranges × AreRanges number (end_of ranges) end (after_front ranges)

-- how many ranges a delta names
abbrev pub number_of : List ℕ → ℕ
number_of delta = slice_index delta 0

-- the ranges of a delta
abbrev pub ranges_of : List ℕ → List ℕ
ranges_of delta = drop 1 delta

-- a delta, none of whose ranges ends past `end`
pub record IsDelta (end : ℕ) (delta : List ℕ) : Type 0 where
  pub some : 1 ≤ number_of delta
  pub few : number_of delta ≤ PATCH_SPANS_MAX
  pub ranges : AreRanges (number_of delta) 0 end (ranges_of delta)

-- a page with the bytes of the range at the front in place of its own
abbrev pub with_front : List ℕ → List ℕ → List ℕ
with_front ranges page = splice page (start_of ranges) (end_of ranges) (front_bytes ranges)

-- a page with the bytes of so many ranges in place of its own
abbrev pub with_ranges : ℕ → List ℕ → List ℕ → List ℕ
with_ranges zero ranges page = page
with_ranges (suc number) ranges page = with_ranges number (after_front ranges) (with_front ranges page)

-- a page after the delta
abbrev pub applied : List ℕ → List ℕ → List ℕ
applied delta page = with_ranges (number_of delta) (ranges_of delta) page
