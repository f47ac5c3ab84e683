-- Laws of lists of pages in hand, by which one of them is found and replaced.
use Rattle.std.proofs.Common.{◌≡◌, ◌≢◌, ℕ, zero, suc, ◌+◌, ◌<◌, ◌≤◌, false, List, [], ◌∷◌}
use Rattle.std.proofs.Common.{length, set, cond, Some, None, refl, sym, ap, ◌∙◌, arith}
use Rattle.std.proofs.Common.{eq-eqb, ne_eqb, inl, inr}
use Rattle.std.specs.Prelude.{IsSome, slice_get, ◌==◌}
use Rattle.std.proofs.lemmas.Bool.Decides.{eqb_tells}
use Rattle.pm_stripe.specs.declared.held.Held.{Held}
use Rattle.pm_stripe.specs.Kept.{held_at, place_at, read_one, read_count}

pub set_here : {X : Type 0} (xs : List X) (i : ℕ) (x : X) → i < length xs → slice_get (set xs i x) i ≡ Some x
set_here [] i x lt = absurd (omega (arith, lt))
set_here (y ∷ ys) zero x lt = refl
set_here (y ∷ ys) (suc i) x lt = set_here ys i x (omega (arith, lt))

pub set_else : {X : Type 0} (xs : List X) (i j : ℕ) (x : X) → j ≢ i → slice_get (set xs i x) j ≡ slice_get xs j
set_else [] i j x ne = refl
set_else (y ∷ ys) zero zero x ne = absurd (ne refl)
set_else (y ∷ ys) zero (suc j) x ne = refl
set_else (y ∷ ys) (suc i) zero x ne = refl
set_else (y ∷ ys) (suc i) (suc j) x ne = set_else ys i j x (λ e. ne (omega (arith, e)))

-- a page that has a place is there, and one that has none isn't
pub place_there : (hs : List Held) (id : ℕ) → place_at hs id < length hs
    → (h : Held) × (held_at hs id ≡ Some h) × (slice_get hs (place_at hs id) ≡ Some h)
place_there [] id lt = absurd (omega arith)
place_there (h ∷ hs) id lt = elim (eqb_tells h.page.0 id) [
  | inl same ↦ simp same.0 (h, refl, refl)
  | inr away ↦ let lt' = simp away.0 at lt in simp away.0 (place_there hs id (omega (arith, lt')))
]

pub place_none : (hs : List Held) (id : ℕ) → length hs ≤ place_at hs id → held_at hs id ≡ None
place_none [] id le = refl
place_none (h ∷ hs) id le = elim (eqb_tells h.page.0 id) [
  | inl same ↦ let le' = simp same.0 at le in absurd (omega (arith, le'))
  | inr away ↦ let le' = simp away.0 at le in simp away.0 (place_none hs id (omega (arith, le')))
]

pub place_some : (hs : List Held) (id : ℕ) → IsSome (held_at hs id) → place_at hs id < length hs
place_some [] id some = absurd (cc some)
place_some (h ∷ hs) id some = elim (eqb_tells h.page.0 id) [
  | inl same ↦ simp same.0 (omega arith)
  | inr away ↦ let some' = simp away.0 at some in simp away.0 (omega (arith, place_some hs id some'))
]

-- a page that is found has the name by which it was sought
pub held_is : (hs : List Held) (id : ℕ) (h : Held) → held_at hs id ≡ Some h → h.page.0 ≡ id
held_is [] id h found = absurd (cc found)
held_is (x ∷ hs) id h found = elim (eqb_tells x.page.0 id) [
  | inl same ↦ let found' = simp same.0 at found in let e : x ≡ h = cc found' in
      ap (λ (z : Held). z.page.0) (sym e) ∙ same.1
  | inr away ↦ let found' = simp away.0 at found in held_is hs id h found'
]

-- the page that replaces the one of its name is found in its place
pub held_set_here : (hs : List Held) (id : ℕ) (h h' : Held) → held_at hs id ≡ Some h → h'.page.0 ≡ id
    → held_at (set hs (place_at hs id) h') id ≡ Some h'
held_set_here [] id h h' found named = absurd (cc found)
held_set_here (x ∷ hs) id h h' found named = elim (eqb_tells x.page.0 id) [
  | inl same ↦ simp (same.0, eq-eqb h'.page.0 id named) refl
  | inr away ↦ let found' = simp away.0 at found in simp away.0 (held_set_here hs id h h' found' named)
]

-- and the others as before
pub held_set_else : (hs : List Held) (id j : ℕ) (h' : Held) → h'.page.0 ≡ id → j ≢ id
    → held_at (set hs (place_at hs id) h') j ≡ held_at hs j
held_set_else [] id j h' named ne = refl
held_set_else (x ∷ hs) id j h' named ne = elim (eqb_tells x.page.0 id) [
  | inl same ↦
      let no : (x.page.0 == j) ≡ false = ne_eqb x.page.0 j (λ e. ne (sym e ∙ same.1)) in
      let no' : (h'.page.0 == j) ≡ false = ne_eqb h'.page.0 j (λ e. ne (sym e ∙ named)) in
      simp (same.0, no, no') refl
  | inr away ↦ simp away.0 (ap (λ o. cond (x.page.0 == j) (Some x) o) (held_set_else hs id j h' named ne))
]

-- as many are read as before
pub read_set : (hs : List Held) (i : ℕ) (h h' : Held) → slice_get hs i ≡ Some h → h'.is_read ≡ h.is_read
    → read_count (set hs i h') ≡ read_count hs
read_set [] i h h' is same = refl
read_set (x ∷ hs) zero h h' is same =
    let e : x ≡ h = cc is in
    ap (λ b. read_one b + read_count hs) (same ∙ ap (λ (z : Held). z.is_read) (sym e))
read_set (x ∷ hs) (suc i) h h' is same = ap (λ n. read_one x.is_read + n) (read_set hs i h h' is same)
