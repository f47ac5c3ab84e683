-- A list with one more element at its end.
use Rattle.std.proofs.Common.{◌≡◌, ℕ, zero, suc, ◌⊎◌, ◌<◌, List, [], ◌∷◌, ◌++◌, length, inl, inr, ⊎_elim, ap, refl, Some, None, arith}
use Rattle.std.specs.List.{slice_get}

none_is : {A : Type 0} (b : A) → None ≡ Some b → ⊥
none_is b e = cc e

some_is : {A : Type 0} (a b : A) → Some a ≡ Some b → a ≡ b
some_is a b e = cc e

-- an element is one that was there, or the new one
pub slice_get-pushed : {A : Type 0} (l : List A) (a b : A) (j : ℕ) → slice_get (l ++ a ∷ []) j ≡ Some b → (slice_get l j ≡ Some b) ⊎ ((j ≡ length l) × (a ≡ b))
slice_get-pushed [] a b zero e = inr (refl, some_is a b e)
slice_get-pushed [] a b (suc j) e = absurd (none_is b e)
slice_get-pushed (x ∷ xs) a b zero e = inl e
slice_get-pushed (x ∷ xs) a b (suc j) e = ⊎_elim (λ h. inl h) (λ t. inr (ap suc t.0, t.1)) (slice_get-pushed xs a b j e)

-- what was pushed is the last element
pub slice_get-push : {A : Type 0} (l : List A) (a : A) → slice_get (l ++ a ∷ []) (length l) ≡ Some a
slice_get-push [] a = refl
slice_get-push (x ∷ xs) a = slice_get-push xs a

-- what comes before the end is as it was
pub slice_get-front : {A : Type 0} (l m : List A) (j : ℕ) → j < length l → slice_get (l ++ m) j ≡ slice_get l j
slice_get-front [] m j h = absurd (omega arith)
slice_get-front (x ∷ xs) m zero h = refl
slice_get-front (x ∷ xs) m (suc j) h = slice_get-front xs m j (omega arith)
