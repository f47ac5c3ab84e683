-- Frames in the order of their stamps and numbers.
use Rattle.std.proofs.Common.{◌≡◌, ℕ, ◌<◌, ◌≤◌, ◌⊎◌, ⊎_elim, inl, inr, Bool, true, false, ◌||◌, ◌&&◌, cond, Option, Some, None, refl, sym, ◌∙◌, subst, arith}
use Rattle.std.specs.Prelude.{nat_lt, ◌==◌}
use Rattle.std.proofs.lemmas.Bool.{cases_lt, cases_order}
use Rattle.std.proofs.lemmas.Bool.Decides.{nat_tests}
use Rattle.pm_policies.specs.declared.tournament.Contender.{Contender}
use Rattle.pm_policies.specs.Stamps.{IsNoLater}
use Rattle.pm_policies.specs.Tournaments.{is_before, winner}

pub no_later_itself : (s f : ℕ) → IsNoLater s f s f
no_later_itself s f = inr (refl, omega arith)

pub no_later_along : (s f t g u h : ℕ) → IsNoLater s f t g → IsNoLater t g u h → IsNoLater s f u h
no_later_along s f t g u h a b =
    ⊎_elim
    (λ (l : s < t). ⊎_elim (λ (m : t < u). inl (omega arith)) (λ (m : (t ≡ u) × (g ≤ h)). inl (omega (arith, m.0))) b)
    (λ (l : (s ≡ t) × (f ≤ g)). ⊎_elim (λ (m : t < u). inl (omega (arith, l.0))) (λ (m : (t ≡ u) × (g ≤ h)). inr (l.0 ∙ m.0, omega (arith, l.1, m.1))) b)
    a

abbrev test : ℕ → ℕ → ℕ → ℕ → Bool
test s f t g = nat_lt s t || (s == t && nat_lt f g)

test_less : (s f t g : ℕ) → s < t → test s f t g ≡ true
test_less s f t g h = grind (arith, nat_tests)

test_same_less : (s f t g : ℕ) → s ≡ t → f < g → test s f t g ≡ true
test_same_less s f t g h k = grind (arith, nat_tests)

test_same_more : (s f t g : ℕ) → s ≡ t → g ≤ f → test s f t g ≡ false
test_same_more s f t g h k = grind (arith, nat_tests)

test_more : (s f t g : ℕ) → t < s → test s f t g ≡ false
test_more s f t g h = grind (arith, nat_tests)

-- the test says which of the two comes first
test_tells : (s f t g : ℕ) → ((test s f t g ≡ true) × IsNoLater s f t g) ⊎ ((test s f t g ≡ false) × IsNoLater t g s f)
test_tells s f t g =
    ⊎_elim
    (λ (e : s ≡ t).
    ⊎_elim
    (λ (h : f < g). inl (test_same_less s f t g e h, inr (e, omega arith)))
    (λ (h : g ≤ f). inr (test_same_more s f t g e h, inr (sym e, h)))
    (cases_lt f g))
    (λ (w : (s < t) ⊎ (t < s)).
    ⊎_elim
    (λ (h : s < t). inl (test_less s f t g h, inl h))
    (λ (h : t < s). inr (test_more s f t g h, inl h))
    w)
    (cases_order s t)

-- the first is there, and no later than the second, if that is there
abbrev pub Leads : Option Contender → Option Contender → Type 0
Leads x None = Unit {0}
Leads None (Some b) = ⊥
Leads (Some a) (Some b) = IsNoLater a.stamp a.frame b.stamp b.frame

pub leads_itself : (x : Option Contender) → Leads x x
leads_itself None = tt
leads_itself (Some a) = no_later_itself a.stamp a.frame

pub leads_along : (x y z : Option Contender) → Leads x y → Leads y z → Leads x z
leads_along x y None a b = tt
leads_along x None (Some c) a b = absurd b
leads_along None (Some b) (Some c) a h = absurd a
leads_along (Some a) (Some b) (Some c) h k = no_later_along a.stamp a.frame b.stamp b.frame c.stamp c.frame h k

abbrev IsWinner : Option Contender → Option Contender → Option Contender → Type 0
IsWinner x y w = ((w ≡ x) ⊎ (w ≡ y)) × Leads w x × Leads w y

pub winner_is : (x y : Option Contender) → IsWinner x y (winner x y)
winner_is None y = (inr refl, lead_none y, leads_itself y)
  where
    lead_none : (z : Option Contender) → Leads z None
    lead_none z = tt
winner_is (Some a) None = (inl refl, leads_itself (Some a), tt)
winner_is (Some a) (Some b) =
    ⊎_elim
    (λ (w : (is_before b a ≡ true) × IsNoLater b.stamp b.frame a.stamp a.frame).
    subst (λ t. IsWinner (Some a) (Some b) (cond t (Some b) (Some a))) (sym w.0) (inr refl, w.1, leads_itself (Some b)))
    (λ (w : (is_before b a ≡ false) × IsNoLater a.stamp a.frame b.stamp b.frame).
    subst (λ t. IsWinner (Some a) (Some b) (cond t (Some b) (Some a))) (sym w.0) (inl refl, leads_itself (Some a), w.1))
    (test_tells b.stamp b.frame a.stamp a.frame)
