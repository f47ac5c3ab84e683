-- A delta is not longer than its ranges' heads and the largest page.
use Rattle.std.proofs.Common.{ℕ, zero, suc, ◌+◌, ◌*◌, ◌≤◌, List, [], ◌∷◌, length, arith, length-drop}
use Rattle.pm_types.specs.declared.limits.TheConstants.{PAGE_SIZE_MAX, PATCH_SPANS_MAX}
use Rattle.pm_types.specs.declared.ranges.TheConstants.{RANGE_HEAD_LEN}
use Rattle.pm_types.specs.DeltaRanges.{len_of, end_of, after_front, AreRanges, IsDelta}

ranges_short : (number low end : ℕ) (ranges : List ℕ) → low ≤ end → AreRanges number low end ranges
    → length ranges + low ≤ RANGE_HEAD_LEN * number + end
ranges_short zero low end ranges le h = rw h (omega arith)
ranges_short (suc number) low end ranges le h =
    let more = ranges_short number (end_of ranges) end (after_front ranges) h.0.within h.1 in
    omega (arith, more, length-drop (RANGE_HEAD_LEN + len_of ranges) ranges, h.0.rises, h.0.whole)

-- its longest payload has the page's name before it
pub delta_short : (delta : List ℕ) → IsDelta PAGE_SIZE_MAX delta → length delta ≤ 1 + RANGE_HEAD_LEN * PATCH_SPANS_MAX + PAGE_SIZE_MAX
delta_short [] h = omega arith
delta_short (number ∷ ranges) h =
    omega (arith, ranges_short number 0 PAGE_SIZE_MAX ranges (omega arith) h.ranges, h.few)
