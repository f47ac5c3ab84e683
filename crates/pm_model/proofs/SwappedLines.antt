-- An order that isn't script order.
use Rattle.std.proofs.Common.{◌≡◌, ℕ, ◌<◌, [], ◌∷◌, cond, Bool, true, false, refl, ap, sym, ◌∙◌, arith}
use Rattle.std.specs.Prelude.{◌==◌}
use Rattle.std.proofs.lemmas.Bool.{eq-eqb, eqb-true}
use Rattle.std.proofs.lemmas.List.Elements.{All-nil, All-cons}
use Rattle.std.proofs.lemmas.List.Kept.{AllPairs-cons}
use Rattle.pm_types.specs.declared.shape.Shape.{Shape}
use Rattle.pm_model.specs.declared.line.Line.{Line}
use Rattle.pm_model.specs.Eval.{Pairs, after, is_accepted, accepted}
use Rattle.pm_model.specs.Orders.{part_of_line, numbers_of, IsPrefix, MayPass, IsOrderOf}
use Rattle.pm_model.proofs.OrderLists.{none_paired}

pub swapped : (shape : Shape) (pairs : Pairs) (a b : Line) → is_accepted shape a pairs ≡ true → is_accepted shape b (after shape a pairs) ≡ true → (part_of_line shape a == part_of_line shape b) ≡ false → IsOrderOf shape 1 (a ∷ b ∷ []) pairs (2 ∷ 1 ∷ [])
swapped shape pairs a b yes_a yes_b apart = record {
  parts = λ part.
      let in_a = part_of_line shape a == part in
      let in_b = part_of_line shape b == part in
      let swap : (s t : Bool) → (s ≡ true → t ≡ true → ⊥) → IsPrefix (cond t (2 ∷ cond s (1 ∷ []) []) (cond s (1 ∷ []) [])) (cond s (1 ∷ cond t (2 ∷ []) []) (cond t (2 ∷ []) [])) = λ s t. elim s as (λ s. (s ≡ true → t ≡ true → ⊥) → IsPrefix (cond t (2 ∷ cond s (1 ∷ []) []) (cond s (1 ∷ []) [])) (cond s (1 ∷ cond t (2 ∷ []) []) (cond t (2 ∷ []) []))) [
        | true ↦ elim t as (λ t. (true ≡ true → t ≡ true → ⊥) → IsPrefix (cond t (2 ∷ 1 ∷ []) (1 ∷ [])) (1 ∷ cond t (2 ∷ []) [])) [ true ↦ λ not_both. absurd (not_both refl refl) | false ↦ λ _. ([], refl) ]
        | false ↦ elim t as (λ t. (false ≡ true → t ≡ true → ⊥) → IsPrefix (cond t (2 ∷ []) []) (cond t (2 ∷ []) [])) [ true ↦ λ _. ([], refl) | false ↦ λ _. ([], refl) ]
      ] in
      let found = swap in_a in_b (λ is_a is_b.
      let one : part_of_line shape a ≡ part_of_line shape b = eqb-true (part_of_line shape a) part is_a ∙ sym (eqb-true (part_of_line shape b) part is_b) in
      let clash : true ≡ false = sym (eq-eqb (part_of_line shape a) (part_of_line shape b) one) ∙ apart in absurd cc) in
      (found.0, ap (numbers_of shape part 1 (a ∷ b ∷ [])) both ∙ found.1);
  passes = AllPairs-cons (λ (later earlier : ℕ). earlier < later → MayPass 1 (a ∷ b ∷ []) later earlier) 2 (1 ∷ [])
      (All-cons (λ (earlier : ℕ). earlier < 2 → MayPass 1 (a ∷ b ∷ []) 2 earlier) 1 [] (λ _. record { near = omega arith; free = λ number after before. absurd (omega (arith, after, before)) }) (All-nil (λ (earlier : ℕ). earlier < 2 → MayPass 1 (a ∷ b ∷ []) 2 earlier)))
      (AllPairs-cons (λ (later earlier : ℕ). earlier < later → MayPass 1 (a ∷ b ∷ []) later earlier) 1 [] (All-nil (λ (earlier : ℕ). earlier < 1 → MayPass 1 (a ∷ b ∷ []) 1 earlier)) (none_paired (λ (later earlier : ℕ). earlier < later → MayPass 1 (a ∷ b ∷ []) later earlier)));
}
  where
    both : accepted shape 1 (a ∷ b ∷ []) pairs ≡ 1 ∷ 2 ∷ []
    both =
        ap (λ t. cond t (1 ∷ accepted shape 2 (b ∷ []) (after shape a pairs)) (accepted shape 2 (b ∷ []) (after shape a pairs))) yes_a
        ∙ ap (λ t. 1 ∷ cond t (2 ∷ []) []) yes_b
