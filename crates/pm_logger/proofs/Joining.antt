-- Blocks, put together.
use Rattle.std.proofs.Common.{◌≡◌, ℕ, ◌+◌, ◌-◌, ◌≤◌, List, [], ◌∷◌, ◌++◌, length, take, drop, refl, sym, ap, ◌∙◌, arith, append-nil}
use Rattle.std.proofs.lemmas.List.{append_assoc, length-take-le, take-append-drop}
use Rattle.std.proofs.Math.Seq.{take-append-add}
use Rattle.pm_logger.specs.Blocks.{joined}

pub joined-append : (xs ys : List (List ℕ)) → joined (xs ++ ys) ≡ joined xs ++ joined ys
joined-append [] ys = refl
joined-append (x ∷ xs) ys = ap (λ bs. x ++ bs) (joined-append xs ys) ∙ sym (append_assoc x (joined xs) (joined ys))

pub joined-push : (xs : List (List ℕ)) (y : List ℕ) → joined (xs ++ y ∷ []) ≡ joined xs ++ y
joined-push xs y = joined-append xs (y ∷ []) ∙ ap (λ b. joined xs ++ b) (append-nil y)

-- a piece after a piece
pub take_piece : (at end : ℕ) (bytes : List ℕ) → at ≤ end → at ≤ length bytes → take at bytes ++ take (end - at) (drop at bytes) ≡ take end bytes
take_piece at end bytes le within =
    let reach : length (take at bytes) + (end - at) ≡ end = omega (arith, le, length-take-le at bytes within) in
    sym (take-append-add (take at bytes) (drop at bytes) (end - at)) ∙ (λ i. take (reach i) (take-append-drop at bytes i))
