-- So many ranges are the one at the front and those after it.
use Rattle.std.proofs.Common.{◌≡◌, ℕ, zero, suc, ◌-◌, ◌<◌, List, subst, refl, arith}
use Rattle.std.specs.Prelude.{◌↔◌}
use Rattle.pm_types.specs.DeltaRanges.{end_of, after_front, BeginsWithRange, AreRanges, with_front, with_ranges}

pub AreRanges-front : (left low end : ℕ) (ranges : List ℕ) → 0 < left → BeginsWithRange low end ranges → AreRanges (left - 1) (end_of ranges) end (after_front ranges) ↔ AreRanges left low end ranges
AreRanges-front zero low end ranges some begins = absurd (omega arith)
AreRanges-front (suc number) low end ranges some begins =
    let e : suc number - 1 ≡ number = omega arith in
    let P : ℕ → Type 0 = λ n. AreRanges n (end_of ranges) end (after_front ranges) in
    (λ rest. (begins, subst P e rest), λ both. subst P (omega arith) both.1)

-- where no range is at the front there are none
pub no_front : (left low end : ℕ) (ranges : List ℕ) → 0 < left → (BeginsWithRange low end ranges → ⊥) → AreRanges left low end ranges → ⊥
no_front zero low end ranges some none all = absurd (omega arith)
no_front (suc number) low end ranges some none all = none all.0

-- the range at the front begins at any place that is before it
pub front_of : (left low end : ℕ) (ranges : List ℕ) → 0 < left → AreRanges left low end ranges → BeginsWithRange low end ranges
front_of zero low end ranges some all = absurd (omega arith)
front_of (suc number) low end ranges some all = all.0

pub rest_after_front : (left low end : ℕ) (ranges : List ℕ) → 0 < left → AreRanges left low end ranges → AreRanges (left - 1) (end_of ranges) end (after_front ranges)
rest_after_front left low end ranges some all = (AreRanges-front left low end ranges some (front_of left low end ranges some all)).1 all

pub with_ranges-front : (left : ℕ) (ranges page : List ℕ) → 0 < left → with_ranges (left - 1) (after_front ranges) (with_front ranges page) ≡ with_ranges left ranges page
with_ranges-front zero ranges page some = absurd (omega arith)
with_ranges-front (suc number) ranges page some =
    let e : number ≡ suc number - 1 = omega arith in
    let P : ℕ → Type 0 = λ n. with_ranges n (after_front ranges) (with_front ranges page) ≡ with_ranges (suc number) ranges page in
    subst P e refl
