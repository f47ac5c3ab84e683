-- Each element that a test asks for is kept by `retain`.
use Rattle.std.proofs.Common.{◌≡◌, Bool, true, false, List, [], ◌∷◌, length, inl, inr, sym, subst, arith}
use Rattle.std.specs.Prelude.{Contains, ⊤}
use Rattle.std.specs.Bool.{MatchBool}
use Rattle.std.specs.List.{items_where_true}
use Rattle.std.specs.List.Retain.{ReturnsInTurn, IsFiltered}
use Rattle.std.proofs.lemmas.List.Elements.{Contains-append_left, Contains-append_right, Contains-append_cases}
use Rattle.pm_disk_fs.proofs.StayingOpen.{only_one}

module _ {X F : Type 0} (R : F → X → Bool → F → Type 0) (P : X → Type 0) (f : F) (h : (x : X) (b : Bool) (f' : F) → R f x b f' → (P x → b ≡ true) × (f' ≡ f)) (x : X) (is : P x) where
  told_kept : (bs : List Bool) (xs : List X) (q : F) → length bs ≡ length xs → ReturnsInTurn R f bs xs q → Contains xs x → Contains (items_where_true bs xs) x
  told_kept [] [] q same t at = at
  told_kept [] (y ∷ xs) q same t at = absurd (omega (arith, same))
  told_kept (b ∷ bs) [] q same t at = absurd t
  told_kept (true ∷ bs) (y ∷ xs) q same t at =
      elim (Contains-append_cases (y ∷ []) xs x at) [
        | inl first ↦ Contains-append_left (y ∷ []) (items_where_true bs xs) x first
        | inr rest ↦ Contains-append_right (y ∷ []) (items_where_true bs xs) x (told_kept bs xs q (omega (arith, same)) (subst (λ (g : F). ReturnsInTurn R g bs xs q) (h y true t.0 t.1).1 t.2) rest)
      ]
  told_kept (false ∷ bs) (y ∷ xs) q same t at =
      elim (Contains-append_cases (y ∷ []) xs x at) [
        | inl first ↦ absurd (subst (λ b. MatchBool b ⊥ ⊤) ((h y false t.0 t.1).0 (subst P (sym (only_one y x first)) is)) tt)
        | inr rest ↦ told_kept bs xs q (omega (arith, same)) (subst (λ (g : F). ReturnsInTurn R g bs xs q) (h y false t.0 t.1).1 t.2) rest
      ]

  pub kept_by_retain : (xs ys : List X) → IsFiltered R f xs ys → Contains xs x → Contains ys x
  kept_by_retain xs ys k at = subst (λ (l : List X). Contains l x) (sym k.4) (told_kept k.0 xs k.1 k.2 k.3 at)
