-- Entries of pages that were asked for, when one of them is changed or one more comes.
use Rattle.std.proofs.Common.{◌≡◌, ◌≢◌, ℕ, suc, ◌+◌, ◌<◌, ◌≤◌, false, List, [], ◌∷◌, ◌++◌, length, set, get_or, cond, refl, sym, ap, ◌∙◌, inl, inr, subst, arith}
use Rattle.std.specs.Prelude.{Option, None, Some, IsSome, ◌==◌}
use Rattle.std.proofs.lemmas.List.{length-append, length-set}
use Rattle.std.proofs.lemmas.Bool.{eq-eqb, ne_eqb}
use Rattle.std.proofs.lemmas.Bool.Decides.{eqb_tells}
use Rattle.pm_pages.specs.declared.asked.Asked.{Asked}
use Rattle.pm_pages.specs.Asked.{to_read, entry_of, position_of, RegistersPage}

-- a page that was asked for has its entry at its position
pub entry_at : (asked : List Asked) (index : ℕ) (d : Asked) → position_of asked index < length asked → (entry_of asked index ≡ Some (get_or asked (position_of asked index) d)) × ((get_or asked (position_of asked index) d).index ≡ index)
entry_at [] index d lt = absurd (omega arith)
entry_at (entry ∷ asked) index d lt = elim (eqb_tells entry.index index) [
  | inl same ↦ simp same.0 (refl, same.1)
  | inr away ↦ let lt' = simp away.0 at lt in simp away.0 (entry_at asked index d (omega (arith, lt')))
]

pub no_entry : (asked : List Asked) (index : ℕ) → length asked ≤ position_of asked index → entry_of asked index ≡ None
no_entry [] index le = refl
no_entry (entry ∷ asked) index le = elim (eqb_tells entry.index index) [
  | inl same ↦ let le' = simp same.0 at le in absurd (omega (arith, le'))
  | inr away ↦ let le' = simp away.0 at le in simp away.0 (no_entry asked index (omega (arith, le')))
]

pub position-le : (asked : List Asked) (index : ℕ) → position_of asked index ≤ length asked
position-le [] index = omega arith
position-le (entry ∷ asked) index = elim (eqb_tells entry.index index) [
  | inl same ↦ simp same.0 (omega arith)
  | inr away ↦ simp away.0 (omega (arith, position-le asked index))
]

-- the entry of a page was changed
pub entry_of-set : (asked : List Asked) (index : ℕ) (entry : Asked) → entry.index ≡ index → position_of asked index < length asked → entry_of (set asked (position_of asked index) entry) index ≡ Some entry
entry_of-set [] index entry same lt = absurd (omega arith)
entry_of-set (other ∷ asked) index entry same lt = elim (eqb_tells other.index index) [
  | inl here ↦ simp (here.0, eq-eqb entry.index index same) refl
  | inr away ↦ let lt' = simp away.0 at lt in simp away.0 (entry_of-set asked index entry same (omega (arith, lt')))
]

pub others-set : (asked : List Asked) (index other : ℕ) (entry : Asked) → entry.index ≡ index → other ≢ index → position_of asked index < length asked → entry_of (set asked (position_of asked index) entry) other ≡ entry_of asked other
others-set [] index other entry same away lt = absurd (omega arith)
others-set (first ∷ asked) index other entry same away lt = elim (eqb_tells first.index index) [
  | inl here ↦
      let no_first : (first.index == other) ≡ false = ne_eqb first.index other (λ e. away (sym e ∙ here.1)) in
      let no_entry' : (entry.index == other) ≡ false = ne_eqb entry.index other (λ e. away (sym e ∙ same)) in
      simp (here.0, no_first, no_entry') refl
  | inr there ↦
      let lt' = simp there.0 at lt in
      let rest = others-set asked index other entry same away (omega (arith, lt')) in
      simp there.0 (ap (λ found. cond (first.index == other) (Some first) found) rest)
]

-- one more page was asked for
pub position_of-push : (asked : List Asked) (index : ℕ) → length asked ≤ position_of asked index → position_of (asked ++ to_read index ∷ []) index ≡ length asked
position_of-push [] index le = simp (eq-eqb index index refl) refl
position_of-push (entry ∷ asked) index le = elim (eqb_tells entry.index index) [
  | inl same ↦ let le' = simp same.0 at le in absurd (omega (arith, le'))
  | inr away ↦ let le' = simp away.0 at le in simp away.0 (ap suc (position_of-push asked index (omega (arith, le'))))
]

pub entry_of-push : (asked : List Asked) (index : ℕ) → length asked ≤ position_of asked index → entry_of (asked ++ to_read index ∷ []) index ≡ Some (to_read index)
entry_of-push [] index le = simp (eq-eqb index index refl) refl
entry_of-push (entry ∷ asked) index le = elim (eqb_tells entry.index index) [
  | inl same ↦ let le' = simp same.0 at le in absurd (omega (arith, le'))
  | inr away ↦ let le' = simp away.0 at le in simp away.0 (entry_of-push asked index (omega (arith, le')))
]

pub others-push : (asked : List Asked) (index other : ℕ) → other ≢ index → entry_of (asked ++ to_read index ∷ []) other ≡ entry_of asked other
others-push [] index other away = simp (ne_eqb index other (λ e. away (sym e))) refl
others-push (entry ∷ asked) index other away = ap (λ found. cond (entry.index == other) (Some entry) found) (others-push asked index other away)

-- one more page that was asked for
pub pushed : (asked : List Asked) (index : ℕ) → length asked ≤ position_of asked index → RegistersPage asked (asked ++ to_read index ∷ []) index
pushed asked index le = record {
  others = λ other away. others-push asked index other away;
  here = subst IsSome (sym (entry_of-push asked index le)) refl;
  again = λ some. (let none = subst IsSome (no_entry asked index le) some in absurd (cc none));
  more = λ none. omega (arith, length-append asked (to_read index ∷ []));
}

-- a page that was asked for before
pub as_before : (asked : List Asked) (index : ℕ) (d : Asked) → position_of asked index < length asked → RegistersPage asked asked index
as_before asked index d lt = record {
  others = λ other away. refl;
  here = subst IsSome (sym (entry_at asked index d lt).0) refl;
  again = λ some. refl;
  more = λ none. (let some = subst IsSome (sym (entry_at asked index d lt).0) refl in let gone = subst IsSome none some in absurd (cc gone));
}

-- the entry that stands at the position of a page
pub found_at : (asked : List Asked) (index position : ℕ) (entry d : Asked) → entry_of asked index ≡ Some entry → position ≡ position_of asked index → position < length asked → d ≡ get_or asked position d → (d ≡ entry) × (d.index ≡ index)
found_at asked index place entry d is at lt here =
    let e : d ≡ get_or asked (position_of asked index) d = here ∙ ap (λ p. get_or asked p d) at in
    let found = entry_at asked index d (omega (arith, at, lt)) in
    let same : Some entry ≡ Some (get_or asked (position_of asked index) d) = sym is ∙ found.0 in
    (cc, ap (λ (entry' : Asked). entry'.index) e ∙ found.1)

-- the entry of a page that was asked for is changed
pub changed : (was mid : List Asked) (index position : ℕ) (entry : Asked) → RegistersPage was mid index → position ≡ position_of mid index → position < length mid → entry.index ≡ index → (entry_of (set mid position entry) index ≡ Some entry) × RegistersPage was (set mid position entry) index
changed was mid index position entry registers at lt same =
    let lt' : position_of mid index < length mid = omega (arith, at, lt) in
    let P : ℕ → Type 0 = λ p. (entry_of (set mid p entry) index ≡ Some entry) × RegistersPage was (set mid p entry) index in
    let long = length-set mid (position_of mid index) entry in
    let here = entry_of-set mid index entry same lt' in
    subst P (sym at) (
      here,
      record {
        others = λ other away. others-set mid index other entry same away lt' ∙ registers.others other away;
        here = subst IsSome (sym here) refl;
        again = λ some. long ∙ registers.again some;
        more = λ none. long ∙ registers.more none;
      },
    )

-- one more entry at most, and none less
pub length_after : (was now : List Asked) (i : ℕ) → RegistersPage was now i → (length was ≤ length now) × (length now ≤ length was + 1)
length_after was now i registers = of_found (entry_of was i) refl
  where
    of_found : (o : Option Asked) → entry_of was i ≡ o → (length was ≤ length now) × (length now ≤ length was + 1)
    of_found None e = (omega (arith, registers.more e), omega (arith, registers.more e))
    of_found (Some entry) e = (omega (arith, registers.again (subst IsSome (sym e) refl)), omega (arith, registers.again (subst IsSome (sym e) refl)))
