-- What a lease shows of its memory.
use Rattle.std.proofs.Common.{◌≡◌, ℕ, ◌≤◌, inl, inr, List, [], ◌∷◌, length, take, replicate, refl, sym, ◌∙◌, arith}
use Rattle.std.proofs.lemmas.List.{take-replicate}
use Rattle.pm_types.specs.declared.limits.TheConstants.{PAGE_SIZE_MAX}
use Rattle.pm_region.specs.Memory.{shown, IsAllOrNone}

-- zeros, as long as nothing is written
pub shown_zeros : (size : ℕ) (xs : List ℕ) → length xs ≡ 0 → shown size xs ≡ replicate size 0
shown_zeros size [] empty = refl
shown_zeros size (x ∷ xs) empty = absurd (omega (arith, empty))

-- there are enough of them in a page
within_a_page : (size len : ℕ) → IsAllOrNone size len → len ≡ 0 → size ≤ PAGE_SIZE_MAX
within_a_page size len (inl all) empty = omega (arith, all, empty)
within_a_page size len (inr none) empty = none.1

pub shown_of_a_page : (size len : ℕ) (xs : List ℕ) → IsAllOrNone size len → len ≡ 0 → len ≡ length xs → take size (replicate PAGE_SIZE_MAX 0) ≡ shown size xs
shown_of_a_page size len xs is empty long =
    take-replicate size PAGE_SIZE_MAX 0 (within_a_page size len is empty) ∙ sym (shown_zeros size xs (sym long ∙ empty))
