-- What several calls keep of how pages were.
use Rattle.std.proofs.Common.{◌≡◌, ℕ, ⊎_elim, inl, inr, List, Option, Some, None, refl, ap, ◌∙◌}
use Rattle.pm_types.specs.declared.page_id.PageId.{PageId}
use Rattle.pm_stripe.specs.declared.held.Held.{Held}
use Rattle.pm_stripe.specs.Bases.{base_by, base_bytes, KeepsBases}
use Rattle.pm_stripe.specs.Kept.{Kept, held_at, place_of, IsStaying}

pub bases_refl : (size : ℕ) (tells : Type 0) (file : PageId → Option (List ℕ)) (k : Kept)
    → KeepsBases size tells file file k k
bases_refl size tells file k = record {
  whole = λ id is. is;
  told = λ t id. inr refl;
  stay = λ id is. (is, inr refl);
}

pub bases_then : (size : ℕ) (tells : Type 0) (f f₁ f₂ : PageId → Option (List ℕ)) (k k₁ k₂ : Kept)
    → KeepsBases size tells f f₁ k k₁ → KeepsBases size tells f₁ f₂ k₁ k₂ → KeepsBases size tells f f₂ k k₂
bases_then size tells f f₁ f₂ k k₁ k₂ x y = record {
  whole = λ id is. y.whole id (x.whole id is);
  told = λ t id. ⊎_elim
      (λ all. inl all)
      (λ e. ⊎_elim (λ all. inl (y.whole id all)) (λ d. inr (e ∙ d)) (x.told t id))
      (y.told t id);
  stay = λ id is.
      let p = y.stay id is in
      let q = x.stay id p.0 in (
        q.0,
        ⊎_elim
            (λ all. inl all)
            (λ e. ⊎_elim (λ all. inl (y.whole id all)) (λ d. inr (e ∙ d)) q.1)
            p.1,
      );
}

-- what stays in a frame doesn't rest on the files
staying_base : (file file' : PageId → Option (List ℕ)) (k : Kept) (id : PageId) → IsStaying k id
    → base_bytes file k id ≡ base_bytes file' k id
staying_base file file' k id is = by_cases (held_at k.held id.0) (place_of k id) is.kept
  where
    by_cases : (o : Option Held) (t : Option (ℕ × ℕ)) → t ≡ Some (is.frame, is.tag)
        → base_by o t k.seat.view.entries k.number (file id)
        ≡ base_by o t k.seat.view.entries k.number (file' id)
    by_cases (Some h) t kept = refl
    by_cases None (Some p) kept = refl
    by_cases None None kept = absurd (let bad : None ≡ Some (is.frame, is.tag) = kept in cc bad)

-- by files with the same content
pub bases_file : (size : ℕ) (tells : Type 0) (file file' : PageId → Option (List ℕ)) (k k' : Kept)
    → (tells → (id : PageId) → file' id ≡ file id) → KeepsBases size tells file file k k'
    → KeepsBases size tells file file' k k'
bases_file size tells file file' k k' same x = record {
  whole = x.whole;
  told = λ t id. ⊎_elim
      (λ all. inl all)
      (λ e. inr (ap (base_by (held_at k'.held id.0) (place_of k' id) k'.seat.view.entries k'.number) (same t id)
      ∙ e))
      (x.told t id);
  stay = λ id is.
      let p = x.stay id is in
      (p.0, ⊎_elim (λ all. inl all) (λ e. inr (staying_base file' file k' id is ∙ e)) p.1);
}

pub bases_told : (size : ℕ) (T U : Type 0) (file file' : PageId → Option (List ℕ)) (k k' : Kept) → (U → T)
    → KeepsBases size T file file' k k' → KeepsBases size U file file' k k'
bases_told size T U file file' k k' told x = record {
  whole = x.whole;
  told = λ u. x.told (told u);
  stay = x.stay;
}
