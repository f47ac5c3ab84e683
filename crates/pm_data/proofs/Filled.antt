-- Rows fill a page without gap or overlap exactly where, by their start, they follow one another.
use Rattle.std.proofs.Common.{◌≡◌, ℕ, zero, suc, ◌+◌, ◌<◌, ◌≤◌, ◌⊎◌, ◌↔◌, true, false, List, [], ◌∷◌, length, get_or, map, swap, refl, sym, ap, subst, ◌∙◌, inl, inr, arith}
use Rattle.std.specs.List.{sum_by, All, range_with_len}
use Rattle.std.proofs.lemmas.List.FromFn.{length-map-range_with_len, get_or-map-range_with_len, sum_by-map-range_with_len_more}
use Rattle.std.specs.List.Sorted.{IsPermutation, IsNonDecreasingBy}
use Rattle.std.proofs.lemmas.Bool.{cases_lt, cases_eq, false≢true}
use Rattle.std.proofs.lemmas.List.Sums.{sum_by-cons}
use Rattle.std.proofs.lemmas.List.Edits.{Swapped, swapped_from_swap, length-swap}
use Rattle.std.proofs.lemmas.List.Sorted.{IsPermutation-keeps, IsPermutation-sym, All-permutation, sum_by-IsPermutation}
use Rattle.pm_data.specs.declared.slots.Slot.{Slot}
use Rattle.pm_data.specs.DataPages.{low_of, slot_at, is_empty, end_of, AreApart, AllApart, IsSound, row_bytes}
use Rattle.pm_data.specs.Following.{AreConsecutive}
use Rattle.pm_data.proofs.RowsByItem.{empty_slot, live_by_len, apart_from_empty, holds_some}

abbrev none : Slot
none = record { start = 0; len = 0 }

-- how many bytes the rows have
abbrev pub len_sum : List Slot → ℕ
len_sum slots = sum_by (λ (s : Slot). s.len) slots

-- each two are apart
abbrev pub AllDistinctApart : List Slot → Type 0
AllDistinctApart xs = (m n : ℕ) → (m ≡ n → ⊥) → m < length xs → n < length xs → AreApart (get_or xs m none) (get_or xs n none)

-- a slot is empty, or its row is between two offsets
abbrev pub IsBetween : ℕ → ℕ → Slot → Type 0
IsBetween at end slot = (is_empty slot ≡ true) ⊎ ((1 ≤ slot.len) × (at ≤ slot.start) × (end_of slot ≤ end))

-- rows rise from `at` to `end`, perhaps with gaps
abbrev Rise : ℕ → ℕ → List Slot → Type 0
Rise at end [] = at ≤ end
Rise at end (s ∷ ss) = ((is_empty s ≡ true) × Rise at end ss) ⊎ ((is_empty s ≡ false) × (at ≤ s.start) × Rise (end_of s) end ss)

-- rows that follow one another have as many bytes as lie there
pub follow_sum : (xs : List Slot) (at end : ℕ) → AreConsecutive at end xs → at + len_sum xs ≡ end
follow_sum [] at end h = omega (arith, h)
follow_sum (s ∷ ss) at end h =
    let sum = sum_by-cons (λ (s : Slot). s.len) s ss in
    elim h [
      | inl void ↦ omega (arith, sum, (empty_slot s void.0).1, follow_sum ss at end void.1)
      | inr here ↦ omega (arith, sum, here.1, follow_sum ss (end_of s) end here.2)
    ]

follow_above : (xs : List Slot) (at end k : ℕ) → AreConsecutive at end xs → k < length xs → (is_empty (get_or xs k none) ≡ true) ⊎ (at ≤ (get_or xs k none).start)
follow_above [] at end k h lt = absurd (omega arith)
follow_above (s ∷ ss) at end zero h lt = elim h [ inl void ↦ inl void.0 | inr here ↦ inr (omega (arith, here.1)) ]
follow_above (s ∷ ss) at end (suc k) h lt =
    elim h [
      | inl void ↦ follow_above ss at end k void.1 (omega arith)
      | inr here ↦ elim (follow_above ss (end_of s) end k here.2 (omega arith)) [ inl empty ↦ inl empty | inr above ↦ inr (omega (arith, above, here.1)) ]
    ]

-- and each is apart from each later one
follow_apart : (xs : List Slot) (at end m n : ℕ) → AreConsecutive at end xs → m < n → n < length xs → AreApart (get_or xs m none) (get_or xs n none)
follow_apart [] at end m n h less lt = absurd (omega arith)
follow_apart (s ∷ ss) at end m zero h less lt = absurd (omega arith)
follow_apart (s ∷ ss) at end zero (suc n) h less lt =
    elim h [
      | inl void ↦ (apart_from_empty s (get_or ss n none) void.0).0
      | inr here ↦ elim (follow_above ss (end_of s) end n here.2 (omega arith)) [ inl empty ↦ (apart_from_empty (get_or ss n none) s empty).1 | inr above ↦ inl above ]
    ]
follow_apart (s ∷ ss) at end (suc m) (suc n) h less lt =
    elim h [ inl void ↦ follow_apart ss at end m n void.1 (omega arith) (omega arith) | inr here ↦ follow_apart ss (end_of s) end m n here.2 (omega arith) (omega arith) ]

pub flipped : (a b : Slot) → AreApart a b → AreApart b a
flipped a b apart = elim apart [ inl x ↦ inr x | inr y ↦ inl y ]

pub follow_distinct : (xs : List Slot) (at end : ℕ) → AreConsecutive at end xs → AllDistinctApart xs
follow_distinct xs at end h m n not lt_m lt_n =
    elim (cases_lt m n) [
      | inl less ↦ follow_apart xs at end m n h less lt_n
      | inr ge ↦ flipped (get_or xs n none) (get_or xs m none) (follow_apart xs at end n m h (omega (arith, not)) lt_m)
    ]

-- rows that rise have at most as many bytes as lie there; where they have as many, there is no gap
rise_sum : (xs : List Slot) (at end : ℕ) → Rise at end xs → at + len_sum xs ≤ end
rise_sum [] at end h = omega (arith, h)
rise_sum (s ∷ ss) at end h =
    let sum = sum_by-cons (λ (s : Slot). s.len) s ss in
    elim h [
      | inl void ↦ omega (arith, sum, (empty_slot s void.0).1, rise_sum ss at end void.1)
      | inr here ↦ omega (arith, sum, here.1, rise_sum ss (end_of s) end here.2)
    ]

rise_follow : (xs : List Slot) (at end : ℕ) → Rise at end xs → at + len_sum xs ≡ end → AreConsecutive at end xs
rise_follow [] at end h full = omega (arith, full)
rise_follow (s ∷ ss) at end h full =
    let sum = sum_by-cons (λ (s : Slot). s.len) s ss in
    elim h [
      | inl void ↦ inl (void.0, rise_follow ss at end void.1 (omega (arith, sum, full, (empty_slot s void.0).1)))
      | inr here ↦
          let least = rise_sum ss (end_of s) end here.2 in
          let start : s.start ≡ at = omega (arith, sum, full, least, here.1) in
          inr (here.0, start, rise_follow ss (end_of s) end here.2 (omega (arith, sum, full, start)))
    ]

-- slots in order of their start, each between the offsets and apart from each other, rise
rises : (xs : List Slot) (at end : ℕ) → 1 ≤ at → at ≤ end → IsNonDecreasingBy (λ (s : Slot). s.start) xs → ((k : ℕ) → k < length xs → IsBetween at end (get_or xs k none)) → ((m n : ℕ) → m < n → n < length xs → AreApart (get_or xs m none) (get_or xs n none)) → Rise at end xs
rises [] at end some fits order each apart = fits
rises (s ∷ ss) at end some fits order each apart =
    let order' : IsNonDecreasingBy (λ (s : Slot). s.start) ss = λ i j d le lt. order (suc i) (suc j) d (omega arith) (omega arith) in
    let apart' : (m n : ℕ) → m < n → n < length ss → AreApart (get_or ss m none) (get_or ss n none) = λ m n less lt. apart (suc m) (suc n) (omega arith) (omega arith) in
    elim (each 0 (omega arith)) [
      | inl empty ↦ inl (empty, rises ss at end some fits order' (λ k lt. each (suc k) (omega arith)) apart')
      | inr here ↦ inr (
        live_by_len s here.0,
        here.1,
        rises ss (end_of s) end (omega (arith, here.1)) here.2 order'
            (λ k lt.
            let t = get_or ss k none in
            let later : s.start ≤ t.start = order 0 (suc k) none (omega arith) (omega arith) in
            elim (each (suc k) (omega arith)) [
              | inl empty ↦ absurd (omega (arith, later, here.1, (empty_slot t empty).0))
              | inr there ↦ inr (there.0, elim (apart 0 (suc k) (omega arith) (omega arith)) [ inl after ↦ after | inr before ↦ absurd (omega (arith, before, later, there.0)) ], there.2)
            ])
            apart',
      )
    ]

-- exchanges keep that all are apart
swapped_apart : (xs : List Slot) (a b : ℕ) → a < length xs → b < length xs → AllDistinctApart xs → AllDistinctApart (swap xs a b)
swapped_apart xs a b lt_a lt_b all m n not lt_m lt_n =
    let moves : Swapped (λ i. get_or xs i none) (λ i. get_or (swap xs a b) i none) a b = swapped_from_swap xs (swap xs a b) a b none lt_a lt_b refl in
    let len = length-swap xs a b in
    let pair : (i j : ℕ) → (i ≡ j → ⊥) → i < length xs → j < length xs → get_or (swap xs a b) m none ≡ get_or xs i none → get_or (swap xs a b) n none ≡ get_or xs j none → AreApart (get_or (swap xs a b) m none) (get_or (swap xs a b) n none) =
    λ i j other lt_i lt_j is_i is_j. subst (λ (p : Slot × Slot). AreApart p.0 p.1) {x = (get_or xs i none, get_or xs j none)} {y = (get_or (swap xs a b) m none, get_or (swap xs a b) n none)} (λ t. (sym is_i t, sym is_j t)) (all i j other lt_i lt_j) in
    let at_a : (k : ℕ) → k ≡ a → get_or (swap xs a b) k none ≡ get_or xs b none = λ k e. ap (λ i. get_or (swap xs a b) i none) e ∙ moves.0 in
    let at_b : (k : ℕ) → k ≡ b → get_or (swap xs a b) k none ≡ get_or xs a none = λ k e. ap (λ i. get_or (swap xs a b) i none) e ∙ moves.1 in
    elim (cases_eq m a) [
      | inl m_a ↦ elim (cases_eq n b) [
        | inl n_b ↦ pair b a (λ e. not (m_a ∙ sym e ∙ sym n_b)) lt_b lt_a (at_a m m_a) (at_b n n_b)
        | inr n_not ↦ pair b n (λ e. n_not (sym e)) lt_b (omega (arith, len)) (at_a m m_a) (moves.2 n (λ e. not (m_a ∙ sym e)) n_not)
      ]
      | inr m_not_a ↦ elim (cases_eq m b) [
        | inl m_b ↦ elim (cases_eq n a) [
          | inl n_a ↦ pair a b (λ e. not (m_b ∙ sym e ∙ sym n_a)) lt_a lt_b (at_b m m_b) (at_a n n_a)
          | inr n_not ↦ pair a n (λ e. n_not (sym e)) lt_a (omega (arith, len)) (at_b m m_b) (moves.2 n n_not (λ e. not (m_b ∙ sym e)))
        ]
        | inr m_not_b ↦ elim (cases_eq n a) [
          | inl n_a ↦ pair m b m_not_b (omega (arith, len)) lt_b (moves.2 m m_not_a m_not_b) (at_a n n_a)
          | inr n_not_a ↦ elim (cases_eq n b) [
            | inl n_b ↦ pair m a m_not_a (omega (arith, len)) lt_a (moves.2 m m_not_a m_not_b) (at_b n n_b)
            | inr n_not_b ↦ pair m n not (omega (arith, len)) (omega (arith, len)) (moves.2 m m_not_a m_not_b) (moves.2 n n_not_a n_not_b)
          ]
        ]
      ]
    ]

pub permuted_apart : (xs ys : List Slot) → IsPermutation xs ys → AllDistinctApart xs → AllDistinctApart ys
permuted_apart xs ys same all = IsPermutation-keeps xs AllDistinctApart all swapped_apart ys same

-- the sorted slots follow one another exactly where the slots are apart and have as many bytes as lie there
pub filled : (xs ys : List Slot) (at end : ℕ) → 1 ≤ at → at ≤ end → IsPermutation xs ys → IsNonDecreasingBy (λ (s : Slot). s.start) ys → All (IsBetween at end) xs → AreConsecutive at end ys ↔ (AllDistinctApart xs × (at + len_sum xs ≡ end))
filled xs ys at end some fits same order each =
    let back = IsPermutation-sym xs ys same in
    let sum : len_sum ys ≡ len_sum xs = sum_by-IsPermutation (λ (s : Slot). s.len) xs ys same in (
      λ follow. (permuted_apart ys xs back (follow_distinct ys at end follow), ap (λ n. at + n) (sym sum) ∙ follow_sum ys at end follow),
      λ (apart, full).
          let between : All (IsBetween at end) ys = All-permutation (IsBetween at end) xs ys same each in
          let apart_ys = permuted_apart xs ys same apart in
          rise_follow ys at end (rises ys at end some fits order (λ k lt. between k none lt) (λ m n less lt. apart_ys m n (λ e. omega (arith, e)) (omega arith) lt)) (ap (λ n. at + n) sum ∙ full),
    )

-- the bytes of a page's rows, added slot by slot
slots_sum : (page : List ℕ) (n : ℕ) → len_sum (map (slot_at page) (range_with_len 0 n)) ≡ row_bytes page n
slots_sum page zero = refl
slots_sum page (suc n) =
    let one : suc n ≡ n + 1 = omega arith in
    ap (λ m. len_sum (map (slot_at page) (range_with_len 0 m))) one ∙ sum_by-map-range_with_len_more (λ (s : Slot). s.len) (slot_at page) 0 n n (omega arith) ∙ ap (λ b. b + (slot_at page n).len) (slots_sum page n)

-- one slot of those that follow one another
pub follow_void : (s : Slot) (ss : List Slot) (at end : ℕ) → is_empty s ≡ true → AreConsecutive at end (s ∷ ss) ↔ AreConsecutive at end ss
follow_void s ss at end empty = (λ h. elim h [ inl void ↦ void.1 | inr here ↦ absurd (false≢true (sym here.0 ∙ empty)) ], λ h. inl (empty, h))

pub follow_live : (s : Slot) (ss : List Slot) (at end next : ℕ) → is_empty s ≡ false → s.start ≡ at → next ≡ at + s.len → AreConsecutive at end (s ∷ ss) ↔ AreConsecutive next end ss
follow_live s ss at end next live start next_is =
    let same : end_of s ≡ next = omega (arith, start, next_is) in
    (λ h. elim h [ inl void ↦ absurd (false≢true (sym live ∙ void.0)) | inr here ↦ subst (λ n. AreConsecutive n end ss) same here.2 ], λ h. inr (live, start, subst (λ n. AreConsecutive n end ss) (sym same) h))

pub follow_gap : (s : Slot) (ss : List Slot) (at end : ℕ) → is_empty s ≡ false → (s.start ≡ at → ⊥) → AreConsecutive at end (s ∷ ss) → ⊥
follow_gap s ss at end live gap h = elim h [ inl void ↦ absurd (false≢true (sym live ∙ void.0)) | inr here ↦ gap here.1 ]

-- the same of the first n slots of a page, which are sound
pub page_filled : (page : List ℕ) (n low : ℕ) (ys : List Slot) → low ≡ low_of page → 1 ≤ low → low ≤ length page → ((item : ℕ) → item < n → IsSound page (slot_at page item)) →
    IsPermutation (map (slot_at page) (range_with_len 0 n)) ys → IsNonDecreasingBy (λ (s : Slot). s.start) ys → AreConsecutive low (length page) ys ↔ (AllApart page n × (low_of page + row_bytes page n ≡ length page))
page_filled page n low ys low_is some above each same order =
    let xs = map (slot_at page) (range_with_len 0 n) in
    let len : length xs ≡ n = length-map-range_with_len (slot_at page) 0 n in
    let at : (k : ℕ) (d : Slot) → k < n → get_or xs k d ≡ slot_at page k = λ k d lt. get_or-map-range_with_len (slot_at page) 0 n k k d lt (omega arith) in
    let between : All (IsBetween low (length page)) xs = λ k d lt. subst (λ s. IsBetween low (length page) s) (sym (at k d (omega (arith, len))))
    (elim (each k (omega (arith, len))) [ inl empty ↦ inl empty | inr holds ↦ inr (omega (arith, holds_some page (slot_at page k) holds), omega (arith, holds.above, low_is), holds.within) ]) in
    let both = filled xs ys low (length page) some above same order between in
    let sum : low + len_sum xs ≡ low_of page + row_bytes page n = λ t. low_is t + slots_sum page n t in (
      λ follow. (λ i j less lt. subst (λ (p : Slot × Slot). AreApart p.0 p.1) {x = (get_or xs i none, get_or xs j none)} {y = (slot_at page i, slot_at page j)} (λ t. (at i none (omega arith) t, at j none lt t)) ((both.0 follow).0 i j (λ e. omega (arith, e)) (omega (arith, len)) (omega (arith, len))), sym sum ∙ (both.0 follow).1),
      λ (apart, full). both.1 (
        λ m k not lt_m lt_k.
            subst (λ (p : Slot × Slot). AreApart p.0 p.1) {x = (slot_at page m, slot_at page k)} {y = (get_or xs m none, get_or xs k none)} (λ t. (sym (at m none (omega (arith, len))) t, sym (at k none (omega (arith, len))) t))
            (elim (cases_lt m k) [ inl less ↦ apart m k less (omega (arith, len)) | inr ge ↦ flipped (slot_at page k) (slot_at page m) (apart k m (omega (arith, not)) (omega (arith, len))) ]),
        sum ∙ full,
      ),
    )
