-- What one comparison tells of rising keys.
use Rattle.std.proofs.Common.{◌≡◌, ℕ, ◌+◌, ◌<◌, ◌≤◌, List, length, ap, subst, ◌∙◌, inl, inr, arith, Greater}
use Rattle.std.proofs.lemmas.Bool.{cases_lt}
use Rattle.std.proofs.lemmas.Cmp.{nat_list_cmp_total}
use Rattle.std.specs.Ordering.{nat_cmp, ordering_reverse}
use Rattle.std.specs.Cmp.Lexicographic.{slice_cmp}
use Rattle.pm_btpage.specs.IndexPages.{Item, IsBelow, IsRising, key_in}

-- the reverse comparison
pub flipped : (a b : List ℕ) → slice_cmp nat_cmp a b ≡ Greater → IsBelow b a
flipped a b h = nat_list_cmp_total.antisymm b a ∙ ap ordering_reverse h

-- keys up to one that is below are below
pub below_up_to : (items : List Item) (key : List ℕ) (m : ℕ) → IsRising items → m < length items → IsBelow (key_in items m) key → (j : ℕ) → j < m + 1 → IsBelow (key_in items j) key
below_up_to items key m rising lt below j le = elim (cases_lt j m) [
  | inl before ↦ nat_list_cmp_total.trans (key_in items j) (key_in items m) key (rising j m before lt) below
  | inr at ↦ let e : m ≡ j = omega arith in subst (λ n. IsBelow (key_in items n) key) e below
]

-- keys from one on that is above are above
pub above_from : (items : List Item) (key : List ℕ) (m : ℕ) → IsRising items → IsBelow key (key_in items m) → (j : ℕ) → m ≤ j → j < length items → IsBelow key (key_in items j)
above_from items key m rising above j le lt = elim (cases_lt m j) [
  | inl after ↦ nat_list_cmp_total.trans key (key_in items m) (key_in items j) above (rising m j after lt)
  | inr at ↦ let e : m ≡ j = omega arith in subst (λ n. IsBelow key (key_in items n)) e above
]
