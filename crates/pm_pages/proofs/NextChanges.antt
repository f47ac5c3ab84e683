-- The next page that was changed, found by looking at each that was asked for.
use Rattle.std.proofs.Common.{◌≡◌, ℕ, suc, ◌+◌, ◌<◌, ◌≤◌, ◌⊎◌, Bool, true, false, List, [], ◌∷◌, length, refl, sym, ap, ◌∙◌, inl, inr, subst, arith}
use Rattle.std.specs.Prelude.{Option, None, Some, slice_get, nat_le, ◌&&◌, if◌then◌else◌}
use Rattle.std.proofs.lemmas.Bool.{cases_lt, ltb-true, ltb-false, leb-true, leb-false, false≢true}
use Rattle.std.proofs.lemmas.Bool.Decides.{eqb_tells}
use Rattle.std.proofs.lemmas.Option.{same_Some, none-some}
use Rattle.pm_pages.specs.declared.asked.Asked.{Asked}
use Rattle.pm_pages.specs.Asked.{entry_of, patch_of, is_changed, is_below, lower_of, IsNextChanged}

-- whether a page was changed
abbrev pub changed_in : List Asked → ℕ → Bool
changed_in asked i = is_changed (patch_of (entry_of asked i))

-- the least one so far is at most this index
abbrev pub IsUpTo : Option ℕ → ℕ → Type 0
IsUpTo None i = ⊥
IsUpTo (Some least) i = least ≤ i

-- it is a changed page, from this index on
abbrev pub IsFound : List Asked → ℕ → Option ℕ → Type 0
IsFound asked from None = Unit {0}
IsFound asked from (Some least) = (from ≤ least) × (changed_in asked least ≡ true)

-- Of so many entries the least index from this one on was found whose page was changed.
pub record FoundLeast (asked : List Asked) (from n : ℕ) (least : Option ℕ) : Type 0 where
  pub is : IsFound asked from least
  pub up_to : (j : ℕ) (one : Asked) → j < n → slice_get asked j ≡ Some one → from ≤ one.index
      → changed_in asked one.index ≡ true → IsUpTo least one.index

-- an entry that is found stands in a place
pub record StandsAt (asked : List Asked) (one : Asked) (i : ℕ) : Type 0 where
  pub at : ℕ
  pub within : at < length asked
  pub there : slice_get asked at ≡ Some one
  pub index : one.index ≡ i

pub entry_stands : (asked : List Asked) (i : ℕ) (one : Asked) → entry_of asked i ≡ Some one → StandsAt asked one i
entry_stands [] i one found = absurd (none-some one found)
entry_stands (entry ∷ asked) i one found = elim (eqb_tells entry.index i) [
  | inl same ↦
      let found' : Some entry ≡ Some one = simp same.0 at found in
      record { at = 0; within = omega arith; there = found'; index = cc (found', same.1) }
  | inr away ↦
      let found' : entry_of asked i ≡ Some one = simp away.0 at found in
      let rest = entry_stands asked i one found' in
      record { at = suc rest.at; within = omega (arith, rest.within); there = rest.there; index = rest.index }
]

-- a page that is not up to the least one was not changed
by_entry : (asked : List Asked) (from i : ℕ) (least : Option ℕ) → FoundLeast asked from (length asked) least → from ≤ i → (IsUpTo least i → ⊥)
    → (found : Option Asked) → entry_of asked i ≡ found → is_changed (patch_of found) ≡ true → ⊥
by_entry asked from i least all le not None at changed = false≢true changed
by_entry asked from i least all le not (Some one) at changed =
    let stands = entry_stands asked i one at in
    let changed' : changed_in asked i ≡ true = ap (λ e. is_changed (patch_of e)) at ∙ changed in
    not (subst (IsUpTo least) stands.index (all.up_to stands.at one stands.within stands.there (omega (arith, le, stands.index))
    (ap (changed_in asked) stands.index ∙ changed')))

unchanged_so : (asked : List Asked) (from i : ℕ) (least : Option ℕ) → FoundLeast asked from (length asked) least → from ≤ i → (IsUpTo least i → ⊥)
    → (b : Bool) → changed_in asked i ≡ b → b ≡ false
unchanged_so asked from i least all le not false eq = refl
unchanged_so asked from i least all le not true eq = absurd (by_entry asked from i least all le not (entry_of asked i) refl eq)

pub unchanged : (asked : List Asked) (from i : ℕ) (least : Option ℕ) → FoundLeast asked from (length asked) least → from ≤ i → (IsUpTo least i → ⊥)
    → changed_in asked i ≡ false
unchanged asked from i least all le not = unchanged_so asked from i least all le not (changed_in asked i) refl

-- once each entry was looked at it is the next changed page
pub next_found : (asked : List Asked) (from : ℕ) (least : Option ℕ) → FoundLeast asked from (length asked) least
    → IsNextChanged (λ i. patch_of (entry_of asked i)) from least
next_found asked from None all = λ i le. unchanged asked from i None all le (λ it. it)
next_found asked from (Some least) all =
    (all.is.0, all.is.1, λ i le below. unchanged asked from i (Some least) all le (λ it. absurd (omega (arith, it, below))))

-- ---- one entry more

before_or_at : (j n : ℕ) → j < n + 1 → (j < n) ⊎ (j ≡ n)
before_or_at j n below = elim (cases_lt j n) [
  | inl before ↦ inl before
  | inr after ↦ inr (omega (arith, below, after))
]

below_up_to : (least : Option ℕ) (index other : ℕ) → is_below index least ≡ true → IsUpTo least other → index ≤ other
below_up_to None index other below up_to = absurd up_to
below_up_to (Some least) index other below up_to = omega (arith, ltb-true index least below, up_to)

not_below : (least : Option ℕ) (index : ℕ) → is_below index least ≡ false → IsUpTo least index
not_below None index not = absurd (false≢true (sym not))
not_below (Some least) index not = ltb-false index least not

not_more : (asked : List Asked) (from n : ℕ) (least : Option ℕ) (one : Asked) → FoundLeast asked from n least → slice_get asked n ≡ Some one
    → (from ≤ one.index → changed_in asked one.index ≡ true → IsUpTo least one.index)
    → FoundLeast asked from (n + 1) least
not_more asked from n least one so_far at here = record {
  is = so_far.is;
  up_to = λ j other below there le changed. elim (before_or_at j n below) [
    | inl before ↦ so_far.up_to j other before there le changed
    | inr same ↦
        let is_one : other ≡ one = same_Some other one (sym there ∙ ap (slice_get asked) same ∙ at) in
        subst (λ (o : Asked). from ≤ o.index → changed_in asked o.index ≡ true → IsUpTo least o.index) (sym is_one) here le changed
  ];
}

one_more : (asked : List Asked) (from n : ℕ) (least : Option ℕ) (one : Asked) → FoundLeast asked from n least → slice_get asked n ≡ Some one
    → changed_in asked one.index ≡ true → from ≤ one.index → is_below one.index least ≡ true
    → FoundLeast asked from (n + 1) (Some one.index)
one_more asked from n least one so_far at is_changed is_from is_below' = record {
  is = (is_from, is_changed);
  up_to = λ j other below there le changed. elim (before_or_at j n below) [
    | inl before ↦ below_up_to least one.index other.index is_below' (so_far.up_to j other before there le changed)
    | inr same ↦
        let is_one : other ≡ one = same_Some other one (sym there ∙ ap (slice_get asked) same ∙ at) in
        omega (arith, ap (λ (o : Asked). o.index) is_one)
  ];
}

-- the entry is taken where it counts
more_so : (asked : List Asked) (from n : ℕ) (least : Option ℕ) (one : Asked) → FoundLeast asked from n least → slice_get asked n ≡ Some one
    → (changed le below : Bool) → changed_in asked one.index ≡ changed → nat_le from one.index ≡ le → is_below one.index least ≡ below
    → FoundLeast asked from (n + 1) (if changed && le && below then Some one.index else least)
more_so asked from n least one so_far at true true true is_changed is_from is_below' =
    one_more asked from n least one so_far at is_changed (leb-true from one.index is_from) is_below'
more_so asked from n least one so_far at true true false is_changed is_from is_below' =
    not_more asked from n least one so_far at (λ le changed. not_below least one.index is_below')
more_so asked from n least one so_far at true false below is_changed is_from is_below' =
    not_more asked from n least one so_far at (λ le changed. absurd (omega (arith, le, leb-false from one.index is_from)))
more_so asked from n least one so_far at false le below is_changed is_from is_below' =
    not_more asked from n least one so_far at (λ le' changed. absurd (false≢true (sym is_changed ∙ changed)))

pub found_more : (asked : List Asked) (from n : ℕ) (least : Option ℕ) (one : Asked) → FoundLeast asked from n least → slice_get asked n ≡ Some one
    → FoundLeast asked from (n + 1) (lower_of (changed_in asked one.index) from least one.index)
found_more asked from n least one so_far at =
    more_so asked from n least one so_far at (changed_in asked one.index) (nat_le from one.index) (is_below one.index least) refl refl refl
