-- Keys rise where each is below the next.
use Rattle.std.proofs.Common.{◌≡◌, ℕ, zero, suc, ◌+◌, ◌-◌, ◌<◌, List, length, subst, arith}
use Rattle.std.proofs.lemmas.Cmp.{nat_list_cmp_total}
use Rattle.pm_btpage.specs.IndexPages.{Item, IsBelow, IsRising, key_in}

abbrev Rise : List Item → Type 0
Rise items = (k : ℕ) → k + 1 < length items → IsBelow (key_in items k) (key_in items (k + 1))

-- an item is below the one that stands so much further on
further : (items : List Item) → Rise items → (i d : ℕ) → i + 1 + d < length items → IsBelow (key_in items i) (key_in items (i + 1 + d))
further items rise i zero lt = let e : i + 1 ≡ i + 1 + 0 = omega arith in subst (λ n. IsBelow (key_in items i) (key_in items n)) e (rise i (omega arith))
further items rise i (suc d) lt =
    let e : i + 1 + d + 1 ≡ i + 1 + suc d = omega arith in
    subst (λ n. IsBelow (key_in items i) (key_in items n)) e
    (nat_list_cmp_total.trans (key_in items i) (key_in items (i + 1 + d)) (key_in items (i + 1 + d + 1)) (further items rise i d (omega arith)) (rise (i + 1 + d) (omega arith)))

pub rising_from_neighbours : (items : List Item) → ((k : ℕ) → k + 1 < length items → IsBelow (key_in items k) (key_in items (k + 1))) → IsRising items
rising_from_neighbours items rise i j less lt =
    let e : i + 1 + (j - i - 1) ≡ j = omega arith in
    subst (λ n. IsBelow (key_in items i) (key_in items n)) e (further items rise i (j - i - 1) (omega arith))
