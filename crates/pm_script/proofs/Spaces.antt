-- The words of a line: what stands between its spaces.
use Rattle.std.proofs.Common.{◌≡◌, ℕ, ◌+◌, ◌≤◌, Bool, true, false, List, [], ◌∷◌, length, take, drop, cond, Some, None, refl, ap, subst, ltb, eqb, arith}
use Rattle.std.specs.List.{slice_split, onto_first, position, position_or_len}
use Rattle.std.proofs.lemmas.List.Splits.{slice_split_first, slice_split_none}
use Rattle.std.proofs.lemmas.List.Sums.{fails_before_first}
use Rattle.std.proofs.lemmas.Bool.{ltb-true, ltb-false}
use Rattle.pm_model.specs.declared.line.Line.TheVariants.{Bad}
use Rattle.pm_script.specs.Grammar.{words_of, line_of_words}

-- a chosen number was chosen by a true test
some_chosen : (t : Bool) (n i : ℕ) → cond t (Some n) None ≡ Some i → (t ≡ true) × (n ≡ i)
some_chosen true n i is = (refl, cc)
some_chosen false n i is = absurd cc

-- where none was chosen the test was false
none_chosen : (t : Bool) (n : ℕ) → cond t (Some n) None ≡ None → t ≡ false
none_chosen true n is = absurd cc
none_chosen false n is = refl

-- what stands before the first byte that passes, and the parts of what stands after it
pub split_found : (p : ℕ → Bool) (bytes : List ℕ) (i : ℕ) → position p bytes ≡ Some i → slice_split p bytes ≡ take i bytes ∷ slice_split p (drop (i + 1) bytes)
split_found p bytes i is =
    let at : (ltb (position_or_len p bytes) (length bytes) ≡ true) × (position_or_len p bytes ≡ i) = some_chosen _ _ _ is in
    subst (λ j. slice_split p bytes ≡ take j bytes ∷ slice_split p (drop (j + 1) bytes)) at.1 (slice_split_first p bytes 0 (ltb-true _ _ at.0))

-- where no byte passes there is one part
pub split_absent : (p : ℕ → Bool) (bytes : List ℕ) → position p bytes ≡ None → slice_split p bytes ≡ bytes ∷ []
split_absent p bytes is =
    let end : length bytes ≤ position_or_len p bytes = ltb-false _ _ (none_chosen _ _ is) in
    slice_split_none p bytes (λ k d below. fails_before_first p bytes k d (omega arith))

-- a byte in front of the first word leaves a word
some_onto : (b : ℕ) (words : List (List ℕ)) → (word : List ℕ) × (others : List (List ℕ)) × (onto_first b words ≡ word ∷ others)
some_onto b [] = (_, _, refl)
some_onto b (word ∷ words) = (_, _, refl)

-- so does a space
some_cond : (t : Bool) (words : List (List ℕ)) (b : ℕ) → (word : List ℕ) × (others : List (List ℕ)) × (cond t ([] ∷ words) (onto_first b words) ≡ word ∷ others)
some_cond true words b = (_, _, refl)
some_cond false words b = some_onto b words

-- each line has a word
some_words : (line : List ℕ) → (word : List ℕ) × (others : List (List ℕ)) × (words_of line ≡ word ∷ others)
some_words [] = (_, _, refl)
some_words (b ∷ line) = some_cond (eqb b 32) (words_of line) b

-- five words or more are too many
pub too_many : (a b c d rest : List ℕ) → line_of_words (a ∷ b ∷ c ∷ d ∷ words_of rest) ≡ Bad
too_many a b c d rest = ap (λ words. line_of_words (a ∷ b ∷ c ∷ d ∷ words)) (some_words rest).2
