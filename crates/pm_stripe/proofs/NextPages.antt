-- The changed page with the least name, as far as was looked.
use Rattle.std.proofs.Common.{◌≡◌, ℕ, ◌+◌, ◌-◌, ◌^◌, ◌<◌, ◌≤◌, ⊎_elim, List, length, refl, sym, ap, subst, ◌∙◌, arith}
use Rattle.std.specs.Prelude.{IsTrue, Some, slice_get}
use Rattle.std.proofs.lemmas.Bool.{cases_lt}
use Rattle.std.proofs.lemmas.Option.{slice_get_within}
use Rattle.pm_stripe.specs.declared.held.Held.{Held}
use Rattle.pm_stripe.specs.ChangedPages.{is_changed}
use Rattle.pm_stripe.specs.Listings.{IsChangedFrom, AreLoggable, NoneFrom, IsNextFrom}

pub record IsLeastTo (held : List Held) (low count place high : ℕ) : Type 0 where
  pub none : length held ≤ place → high ≡ 2 ^ 64 - 1
  pub some : place < length held → (h : Held) × (slice_get held place ≡ Some h) × IsTrue (is_changed h.patch) × (low ≤ h.page.0) × (h.page.0 ≡ high)
  pub least : (i : ℕ) (h : Held) → i < count → slice_get held i ≡ Some h → IsTrue (is_changed h.patch) → low ≤ h.page.0 → high ≤ h.page.0

pub least_none : (held : List Held) (low : ℕ) → IsLeastTo held low 0 (length held) (2 ^ 64 - 1)
least_none held low = record { none = λ _. refl; some = λ lt. absurd (omega (arith, lt)); least = λ i h lt. absurd (omega (arith, lt)) }

-- the next one is it
pub least_here : (held : List Held) (low i place high : ℕ) (h : Held) → slice_get held i ≡ Some h → IsChangedFrom h low high → IsLeastTo held low i place high → IsLeastTo held low (i + 1) i h.page.0
least_here held low i place high h at is was = record {
  none = λ le. absurd (omega (arith, le, slice_get_within held i h at));
  some = λ _. (h, at, is.changed, is.from, refl);
  least = λ j g lt there changed from. ⊎_elim
      (λ old. omega (arith, was.least j g old there changed from, is.below))
      (λ le. let same : j ≡ i = omega (arith, lt, le) in let e : Some h ≡ Some g = sym at ∙ ap (slice_get held) (sym same) ∙ there in let e' : h ≡ g = cc e in omega (arith, ap (λ (x : Held). x.page.0) e'))
      (cases_lt j i);
}

-- or it isn't
pub least_else : (held : List Held) (low i place high : ℕ) (h : Held) → slice_get held i ≡ Some h → (IsChangedFrom h low high → ⊥) → IsLeastTo held low i place high → IsLeastTo held low (i + 1) place high
least_else held low i place high h at not was = record {
  none = was.none;
  some = was.some;
  least = λ j g lt there changed from. ⊎_elim
      (λ old. was.least j g old there changed from)
      (λ le. let same : j ≡ i = omega (arith, lt, le) in let e : Some h ≡ Some g = sym at ∙ ap (slice_get held) (sym same) ∙ there in let e' : h ≡ g = cc e in
      ⊎_elim
      (λ below. absurd (not (record {
        changed = subst (λ (x : Held). IsTrue (is_changed x.patch)) (sym e') changed;
        from = subst (λ (x : Held). low ≤ x.page.0) (sym e') from;
        below = subst (λ (x : Held). x.page.0 < high) (sym e') below;
      })))
      (λ ge. ge)
      (cases_lt g.page.0 high))
      (cases_lt j i);
}

pub found_next : (held : List Held) (low count place high : ℕ) → length held ≤ count → IsLeastTo held low count place high → place < length held → IsNextFrom held low place
found_next held low count place high all is lt = let x = is.some lt in record {
  page = x.0;
  at = x.1;
  here = record { changed = x.2; from = x.3; below = omega arith };
  least = λ i h at changed from. omega (arith, x.4, is.least i h (omega (arith, slice_get_within held i h at, all)) at changed from);
}

pub found_none : (held : List Held) (low count place high : ℕ) → AreLoggable held → length held ≤ count → IsLeastTo held low count place high → length held ≤ place → NoneFrom held low
found_none held low count place high loggable all is none i h at changed = ⊎_elim
    (λ below. below)
    (λ from. absurd (let name = (loggable.each i h at).named.flag in omega (arith, name, is.none none, is.least i h (omega (arith, slice_get_within held i h at, all)) at changed from)))
    (cases_lt h.page.0 low)
