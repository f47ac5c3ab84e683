-- A walk along a chain, turn by turn.
use Rattle.std.proofs.Common.{◌≡◌, ℕ, zero, suc, ◌-◌, ◌<◌, Bool, List, [], ◌∷◌, ◌++◌, append_assoc, sym, ap, ◌∙◌, subst, arith}
use Rattle.std.specs.Prelude.{if◌then◌else◌, ◌↔◌, IsTrue, false, length}
use Rattle.std.specs.List.{slice_index_or}
use Rattle.std.proofs.lemmas.Bool.{ne_eqb}
use Rattle.pm_pages.specs.Chains.{walk, IsExactly}

walk-more : (next : ℕ → ℕ) (turns at : ℕ) → 0 < turns → (at ≡ 0 → ⊥) → walk next turns at ≡ at ∷ walk next (turns - 1) (next at)
walk-more next zero at some away = absurd (omega arith)
walk-more next (suc turns) at some away =
    let e : turns ≡ suc turns - 1 = omega arith in
    simp (ne_eqb at 0 away) (ap (λ n. at ∷ walk next n (next at)) e)

pub one_turn_more : (next : ℕ → ℕ) (chain chain' all : List ℕ) (turns at at' : ℕ) → chain ++ walk next turns at ≡ all → 0 < turns → (at ≡ 0 → ⊥) → chain' ≡ chain ++ at ∷ [] → at' ≡ next at → chain' ++ walk next (turns - 1) at' ≡ all
one_turn_more next chain chain' all turns at at' is some away more moved =
    ap (λ (p : List ℕ × ℕ). p.0 ++ walk next (turns - 1) p.1) (λ i. (more i, moved i))
    ∙ append_assoc chain (at ∷ []) (walk next (turns - 1) (next at))
    ∙ ap (λ (t : List ℕ). chain ++ t) (sym (walk-more next turns at some away))
    ∙ is

-- only what a test says of the numbers below n counts
pub same_test : (n n' : ℕ) (test test' : ℕ → Bool) (list : List ℕ) → n ≡ n' → ((i : ℕ) → i < n → test i ≡ test' i) → IsExactly n test list → IsExactly n' test' list
same_test n n' test test' list len same exactly = record {
  below = λ k d lt. omega (arith, exactly.below k d lt, len);
  once = λ i lt. (let lt' : i < n = omega (arith, len) in exactly.once i lt' ∙ ap (λ (b : Bool). if b then 1 else 0) (same i lt'));
}

-- a list that has exactly what flags say
pub by_flags : (n : ℕ) (test : ℕ → Bool) (list list' : List ℕ) (flags flags' : List Bool) (is : Bool) → (IsTrue is ↔ IsExactly (length flags') (λ i. slice_index_or flags' i false) list') → list' ≡ list → flags' ≡ flags → length flags ≡ n → ((i : ℕ) → i < n → slice_index_or flags i false ≡ test i) → IsTrue is ↔ IsExactly n test list
by_flags n test list list' flags flags' is decides same_list same_flags len each =
    let P : List ℕ × List Bool → Type 0 = λ p. IsTrue is ↔ IsExactly (length p.1) (λ i. slice_index_or p.1 i false) p.0 in
    let by = subst P (λ i. (same_list i, same_flags i)) decides in (
      λ h. same_test (length flags) n (λ i. slice_index_or flags i false) test list len (λ i lt. each i (omega (arith, len))) (by.0 h),
      λ h. by.1 (same_test n (length flags) test (λ i. slice_index_or flags i false) list (sym len) (λ i lt. sym (each i lt)) h),
    )
