-- Reads into a buffer, one after the other.
use Rattle.std.proofs.Common.{◌≡◌, ◌+◌, ◌≤◌, ◌<◌, ℕ, List, [], ◌∷◌, ◌++◌, length, take, Option, Some, None, inl, inr, refl, sym, ◌∙◌, ap, subst, arith, length-append, length-take}
use Rattle.std.specs.Prelude.{◌⊎◌, ◌^◌}
use Rattle.std.specs.List.{concat}
use Rattle.std.proofs.Math.Seq.{take-append-add}
use Rattle.std.proofs.lemmas.List.{take-take, append-nil}
use Rattle.std.proofs.lemmas.List.Folds.{concat-append}
use Rattle.std.proofs.lemmas.Slice.{take-put_mid}
use Rattle.std.specs.Io.KnownBytes.{Keeps}
use Rattle.pm_disk_fs.specs.Reads.{DidGive, IsGiven}
use borrow.Rule.Slice.PartMut.{put_mid, post_of}

-- what reads gave, and what the next one gave
pub did_give-push : {F : Type 0} (gave : F → ℕ → List ℕ → Type 0) (file : F) (at : ℕ) (pieces : List (List ℕ)) (piece : List ℕ) → DidGive gave file at pieces → gave file (at + length (concat pieces)) piece → DidGive gave file at (pieces ++ piece ∷ [])
did_give-push gave file at [] piece given next = (subst (λ n. gave file n piece) (omega arith) next, tt)
did_give-push gave file at (first ∷ pieces) piece given next = (
  given.0,
  did_give-push gave file (at + length first) pieces piece given.1
      (subst (λ n. gave file n piece) (omega (arith, length-append first (concat pieces))) next),
)

pub given-push : {F : Type 0} (gave : F → ℕ → List ℕ → Type 0) (file : F) (at : ℕ) (bytes piece : List ℕ) → IsGiven gave file at bytes → gave file (at + length bytes) piece → IsGiven gave file at (bytes ++ piece)
given-push gave file at bytes piece given next = record {
  pieces = given.pieces ++ piece ∷ [];
  given = did_give-push gave file at given.pieces piece given.given (subst (λ l. gave file (at + length l) piece) given.are next);
  are = ap (λ l. l ++ piece) given.are
      ∙ ap (λ l. concat given.pieces ++ l) (sym (append-nil piece))
      ∙ sym (concat-append given.pieces (piece ∷ []));
}

-- a read after so many bytes that gave some was made there
pub given-next : {F : Type 0} (gave : F → ℕ → List ℕ → Type 0) (file : F) (at count n : ℕ) (bytes piece : List ℕ) → length bytes ≡ count → 0 < n → gave file (at + count) piece ⊎ ((n ≡ 0) × (2 ^ 64 ≤ at + count)) → gave file (at + length bytes) piece
given-next gave file at count n bytes piece long some (inl next) = subst (λ m. gave file (at + m) piece) (sym long) next
given-next gave file at count n bytes piece long some (inr none) = absurd (omega (arith, some, none.0))

-- the front of a buffer whose part from a place on was read into
pub take-put_mid-add : (a k m : ℕ) (xs ys : List ℕ) → a ≤ length xs → m ≤ length ys → take (a + m) (put_mid a k xs ys) ≡ take a xs ++ take m ys
take-put_mid-add a k m xs ys within le =
    let long : length (take a xs) ≡ a = omega (arith, within, length-take a xs) in
    sym (take-take (a + m) (a + length ys) (put_mid a k xs ys) (omega (arith, le)))
    ∙ ap (λ (l : List ℕ). take (a + m) l) (take-put_mid a k xs ys (a + length ys) refl within)
    ∙ ap (λ n. take (n + m) (take a xs ++ ys)) (sym long)
    ∙ take-append-add (take a xs) ys m

pub length-put_mid-ge : (a k : ℕ) (xs ys : List ℕ) → a ≤ length xs → a + length ys ≤ length (put_mid a k xs ys)
length-put_mid-ge a k xs ys within = omega (arith, within, length-append (take a xs) (ys ++ post_of a k xs), length-append ys (post_of a k xs), length-take a xs)

-- nothing was consumed by one read, and nothing by the next
pub keeps-keeps : (old mid new : Option (List ℕ)) → Keeps old mid → Keeps mid new → Keeps old new
keeps-keeps None mid new first next = tt
keeps-keeps (Some old) None new first next = absurd first
keeps-keeps (Some old) (Some mid) None first next = absurd next
keeps-keeps (Some old) (Some mid) (Some new) first next = next ∙ first
