-- The first ones of a list.
use Rattle.std.proofs.Common.{◌≡◌, List, [], ◌∷◌, take, refl}

-- the first none of a list
pub take_none : {A : Type 0} (xs : List A) → take 0 xs ≡ []
take_none [] = refl
take_none (x ∷ xs) = refl
