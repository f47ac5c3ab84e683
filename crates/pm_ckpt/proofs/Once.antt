-- Lists in which each page stands once.
use Rattle.std.proofs.Common.{◌≡◌, ℕ, zero, suc, ◌<◌, List, [], ◌∷◌, length, take, get_or, Bool, true, false, refl, sym, ◌∙◌, ap, arith, ne_eqb}
use Rattle.std.specs.Prelude.{◌≢◌, ◌==◌, not, if◌then◌else◌, All}
use Rattle.std.proofs.lemmas.Bool.{eq-eqb}
use Rattle.std.proofs.lemmas.List.{length-take, get_or-take}
use Rattle.std.proofs.lemmas.List.Elements.{All-head, All-tail}
use Rattle.std.proofs.lemmas.Bool.Decides.{nat_tests}
use Rattle.pm_types.specs.declared.page_id.PageId.{PageId}
use Rattle.pm_core.specs.PageSets.{AreOnce, has_page, without_page}

-- what isn't among pages is neither the first nor among the rest
past : (page x : PageId) (xs : List PageId) → has_page page (x ∷ xs) ≡ false → ((x.0 == page.0) ≡ false) × (has_page page xs ≡ false)
past page x xs is = by (x.0 == page.0) is
  where
    by : (b : Bool) → (if b then true else has_page page xs) ≡ false → (b ≡ false) × (has_page page xs ≡ false)
    by true has = absurd cc
    by false has = (refl, has)

-- nor at an index
pub not_at : (page : PageId) (xs : List PageId) (i : ℕ) (d : PageId) → i < length xs → has_page page xs ≡ false → ((get_or xs i d).0 == page.0) ≡ false
not_at page [] i d lt none = absurd (omega (arith, lt))
not_at page (x ∷ xs) zero d lt none = (past page x xs none).0
not_at page (x ∷ xs) (suc i) d lt none = not_at page xs i d (omega (arith, lt)) (past page x xs none).1

pub flip : (a b : ℕ) → (a == b) ≡ false → (b == a) ≡ false
flip a b other = grind (arith, nat_tests)

-- a page isn't among those before it
pub new_at : (xs : List PageId) (i : ℕ) (d : PageId) → i < length xs → AreOnce xs → has_page (get_or xs i d) (take i xs) ≡ false
new_at [] i d lt once = absurd (omega (arith, lt))
new_at (x ∷ xs) zero d lt once = refl
new_at (x ∷ xs) (suc i) d lt once =
    let low : i < length xs = omega (arith, lt) in
    let other = flip _ _ (not_at x xs i d low once.0) in
    ap (λ (b : Bool). if b then true else has_page (get_or xs i d) (take i xs)) other ∙ new_at xs i d low once.1

-- a page that isn't among others is not taken out
pub none_without : (page : PageId) (xs : List PageId) → has_page page xs ≡ false → without_page page xs ≡ xs
none_without page [] none = refl
none_without page (x ∷ xs) none =
    let parts = past page x xs none in
    ap (λ (b : Bool). let l : List PageId = if not b then x ∷ without_page page xs else without_page page xs in l) parts.0
    ∙ ap (λ l. x ∷ l) (none_without page xs parts.1)

-- two places have different pages
pub once_apart : (xs : List PageId) (i j : ℕ) (d : PageId) → i < j → j < length xs → AreOnce xs → (get_or xs i d).0 ≡ (get_or xs j d).0 → ⊥
once_apart xs i j d low lt once same =
    let within : i < length (take j xs) = omega (arith, length-take j xs) in
    let apart = not_at (get_or xs j d) (take j xs) i d within (new_at xs j d lt once) in
    let here : ((get_or xs i d).0 == (get_or xs j d).0) ≡ false = ap (λ (p : PageId). p.0 == (get_or xs j d).0) (sym (get_or-take j xs i d low)) ∙ apart in
    let never : true ≡ false = sym (eq-eqb _ _ same) ∙ here in
    absurd cc

-- what differs from each isn't among them
pub none_among : (page : PageId) (xs : List PageId) → All (λ x. x.0 ≢ page.0) xs → has_page page xs ≡ false
none_among page [] all = refl
none_among page (x ∷ xs) all =
    ap (λ (b : Bool). if b then true else has_page page xs) (ne_eqb x.0 page.0 (All-head (λ (y : PageId). y.0 ≢ page.0) x xs all))
    ∙ none_among page xs (All-tail (λ (y : PageId). y.0 ≢ page.0) x xs all)
