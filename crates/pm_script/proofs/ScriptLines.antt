-- A script is its first line and the script after it, and a long line is known by its first bytes.
use Rattle.std.proofs.Common.{◌≡◌, ℕ, ◌+◌, ◌<◌, Bool, true, false, List, [], ◌∷◌, length, take, map, cond, refl, ap, sym, ◌∙◌, inl, inr, eqb, arith}
use Rattle.std.proofs.lemmas.Bool.{cases_lt, lt-ltb}
use Rattle.std.proofs.lemmas.List.{length-take-le, take_all}
use Rattle.std.specs.List.{onto_first}
use Rattle.pm_types.specs.declared.limits.TheConstants.{LINE_MAX}
use Rattle.pm_model.specs.declared.line.Line.TheVariants.{Long}
use Rattle.pm_script.specs.Lines.{lines_of, first_line, after_line}
use Rattle.pm_script.specs.Grammar.{line_of, line_of_words, words_of, script_of}

-- one byte more in front, a newline or not
lines_cond : (t : Bool) (b : ℕ) (first bytes others : List ℕ) → lines_of bytes ≡ first ∷ lines_of others →
    cond t ([] ∷ lines_of bytes) (onto_first b (lines_of bytes)) ≡ cond t [] (b ∷ first) ∷ lines_of (cond t bytes others)
lines_cond true b first bytes others so_far = refl
lines_cond false b first bytes others so_far = ap (onto_first b) so_far

-- the last byte of all
lines_last : (t : Bool) (b : ℕ) → cond t ([] ∷ []) ((b ∷ []) ∷ []) ≡ cond t [] (b ∷ []) ∷ []
lines_last true b = refl
lines_last false b = refl

-- nothing stands after it
none_after : (t : Bool) → lines_of (cond t [] []) ≡ []
none_after true = refl
none_after false = refl

-- the first line, and the lines of what stands after it
pub lines_of-first : (bytes : List ℕ) → 0 < length bytes → lines_of bytes ≡ first_line bytes ∷ lines_of (after_line bytes)
lines_of-first [] some = absurd (omega arith)
lines_of-first (b ∷ []) some = lines_last (eqb b 10) b ∙ ap (λ lines. cond (eqb b 10) [] (b ∷ []) ∷ lines) (sym (none_after (eqb b 10)))
lines_of-first (b ∷ c ∷ bytes) some = lines_cond (eqb b 10) b (first_line (c ∷ bytes)) (c ∷ bytes) (after_line (c ∷ bytes)) (lines_of-first (c ∷ bytes) (omega arith))

-- what the first line says, and what those after it say
pub script_of-first : (bytes : List ℕ) → 0 < length bytes → script_of bytes ≡ line_of (first_line bytes) ∷ script_of (after_line bytes)
script_of-first bytes some = ap (map line_of) (lines_of-first bytes some)

-- a line that is too long is told apart
pub line_of-long : (line : List ℕ) → LINE_MAX < length line → line_of line ≡ Long
line_of-long line long = ap (λ t. cond t Long (line_of_words (words_of line))) (lt-ltb _ _ long)

-- a line cut after the first byte that makes it too long says what the whole line says
pub line_of-cut : (line : List ℕ) → line_of (take (LINE_MAX + 1) line) ≡ line_of line
line_of-cut line = elim (cases_lt LINE_MAX (length line)) [
  | inl long ↦
      let cut : length (take (LINE_MAX + 1) line) ≡ LINE_MAX + 1 = length-take-le (LINE_MAX + 1) line (omega arith) in
      line_of-long (take (LINE_MAX + 1) line) (omega arith) ∙ sym (line_of-long line long)
  | inr short ↦ ap line_of (take_all (LINE_MAX + 1) line (omega arith))
]
