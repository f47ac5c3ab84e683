-- What lists of rows say of each item, after a row was put in or taken out.
use Rattle.std.proofs.Common.{◌≡◌, ℕ, suc, ◌+◌, ◌-◌, ◌<◌, ◌≤◌, true, None, Some, Option, List, ◌∷◌, length, take, drop, get_or, max, reverse, is_none, refl, sym, ap, ◌∙◌, inl, inr, arith}
use Rattle.std.specs.List.{suffix_len}
use Rattle.std.proofs.lemmas.Bool.{cases_lt, cases_eq, false≢true}
use Rattle.std.proofs.lemmas.List.{length-take-le, length-append, length-drop, get_or_append_left, get_or-append_right, get_or-take, get_or-drop, get_or_at, get_or-reverse, get_or_past}
use Rattle.std.proofs.lemmas.List.Sums.{prefix_len_passes, suffix_len-le-length}
use Rattle.pm_data.specs.DataPages.{row_at, with_row, without_row, without_empty_end}

-- the rows with another as item
pub length-with_row : (rows : List (Option (List ℕ))) (item : ℕ) (row : Option (List ℕ)) → item ≤ length rows → length (with_row rows item row) ≡ max (length rows) (item + 1)
length-with_row rows item row le = omega (arith, length-append (take item rows) (row ∷ drop (item + 1) rows), length-take-le item rows le, length-drop (item + 1) rows)

pub row_at-with_row_here : (rows : List (Option (List ℕ))) (item : ℕ) (row : Option (List ℕ)) → item ≤ length rows → row_at (with_row rows item row) item ≡ row
row_at-with_row_here rows item row le = get_or_at (take item rows) row (drop (item + 1) rows) None item (length-take-le item rows le)

pub row_at-with_row_other : (rows : List (Option (List ℕ))) (item k : ℕ) (row : Option (List ℕ)) → item ≤ length rows → (k ≡ item → ⊥) → row_at (with_row rows item row) k ≡ row_at rows k
row_at-with_row_other rows item k row le not =
    let front = length-take-le item rows le in
    elim (cases_lt k item) [
      | inl lt ↦ get_or_append_left (take item rows) (row ∷ drop (item + 1) rows) None k (omega (arith, front)) ∙ get_or-take item rows k None lt
      | inr ge ↦
          let more : item < k = elim (cases_eq k item) [ inl same ↦ absurd (not same) | inr other ↦ omega (arith, ge, other) ] in
          let step : k - item ≡ suc (k - item - 1) = omega arith in
          let back : item + 1 + (k - item - 1) ≡ k = omega arith in
          get_or-append_right (take item rows) (row ∷ drop (item + 1) rows) item k None front ge
          ∙ ap (λ n. get_or (row ∷ drop (item + 1) rows) n None) step ∙ get_or-drop (item + 1) rows (k - item - 1) None ∙ ap (λ n. get_or rows n None) back
    ]

is_none-None : (row : Option (List ℕ)) → is_none row ≡ true → row ≡ None
is_none-None None none = refl
is_none-None (Some bytes) none = absurd (false≢true none)

-- items dropped at the end had no row
pub row_at-without_empty_end : (rows : List (Option (List ℕ))) (k : ℕ) → row_at (without_empty_end rows) k ≡ row_at rows k
row_at-without_empty_end rows k =
    let n = suffix_len is_none rows in
    let le = suffix_len-le-length is_none rows in
    let kept = length rows - n in
    let len : length (take kept rows) ≡ kept = length-take-le kept rows (omega arith) in
    elim (cases_lt k kept) [
      | inl lt ↦ get_or-take kept rows k None lt
      | inr ge ↦ get_or_past (take kept rows) k None (omega (arith, len)) ∙ sym (elim (cases_lt k (length rows)) [
        | inl within ↦
            let back = length rows - 1 - k in
            let passes = prefix_len_passes is_none (reverse rows) back None (omega (arith, le)) in
            let same : length rows - 1 - back ≡ k = omega arith in
            is_none-None (get_or rows k None) (ap (λ i. is_none (get_or rows i None)) (sym same) ∙ ap is_none (sym (get_or-reverse rows back None (omega arith))) ∙ passes)
        | inr past ↦ get_or_past rows k None past
      ])
    ]

pub row_at-without_row_here : (rows : List (Option (List ℕ))) (item : ℕ) → item ≤ length rows → row_at (without_row rows item) item ≡ None
row_at-without_row_here rows item le = row_at-without_empty_end (with_row rows item None) item ∙ row_at-with_row_here rows item None le

pub row_at-without_row_other : (rows : List (Option (List ℕ))) (item k : ℕ) → item ≤ length rows → (k ≡ item → ⊥) → row_at (without_row rows item) k ≡ row_at rows k
row_at-without_row_other rows item k le not = row_at-without_empty_end (with_row rows item None) k ∙ row_at-with_row_other rows item k None le not
