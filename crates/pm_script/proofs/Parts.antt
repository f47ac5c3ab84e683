-- The parts of a buffer: the line that goes on, and what belongs to no line yet.
use Rattle.std.proofs.Common.{◌≡◌, ℕ, suc, ◌+◌, ◌-◌, ◌<◌, ◌≤◌, min, List, [], ◌∷◌, ◌++◌, length, take, drop, ap, sym, ◌∙◌, inl, inr, get_or, add-one, arith}
use Rattle.std.proofs.lemmas.List.{drop-drop, length-drop, length-take, take-take, take_all, get_or-take}
use Rattle.std.proofs.lemmas.List.Edits.{take-paste}
use Rattle.std.proofs.lemmas.Bool.{cases_lt}
use Rattle.std.proofs.Math.Seq.{take-add, paste, drop-cons}
use Rattle.pm_types.specs.declared.limits.TheConstants.{LINE_MAX}
use Rattle.pm_script.specs.Reading.{cut}

-- the first k of the first n
pub take-take_min : (k n : ℕ) (xs : List ℕ) → take k (take n xs) ≡ take (min n k) xs
take-take_min k n xs = elim (cases_lt k n) [
  | inl less ↦
      let is : min n k ≡ k = omega arith in
      take-take k n xs (omega arith) ∙ ap (λ m. take m xs) (sym is)
  | inr more ↦
      let is : min n k ≡ n = omega arith in
      take_all k (take n xs) (omega (arith, length-take n xs)) ∙ ap (λ m. take m xs) (sym is)
]

-- a cut of a cut
pub cut-cut : (line : List ℕ) → cut (cut line) ≡ cut line
cut-cut line = take-take (LINE_MAX + 1) (LINE_MAX + 1) line (omega arith)

-- what was moved to the front
pub moved_front : (buffer : List ℕ) (from to len : ℕ) → from ≤ to → to ≤ length buffer → len ≡ min (to - from) (LINE_MAX + 1) → take len (paste buffer 0 (drop from buffer) (from + len - from)) ≡ cut (take (to - from) (drop from buffer))
moved_front buffer from to len ordered within is =
    let count : from + len - from ≡ len = omega arith in
    ap (λ n. take len (paste buffer 0 (drop from buffer) n)) count
    ∙ ap (λ n. take n (paste buffer 0 (drop from buffer) len)) (omega arith)
    ∙ take-paste buffer 0 (drop from buffer) len (omega arith) (omega (arith, length-drop from buffer, is, ordered, within))
    ∙ ap (λ n. take n (drop from buffer)) is
    ∙ sym (take-take_min (LINE_MAX + 1) (to - from) (drop from buffer))

-- the line that was moved to the front, once the next piece stands after it
pub kept_line : (kept : ℕ) (buffer moved line : List ℕ) → take kept buffer ≡ take kept moved → take kept moved ≡ cut line → cut (take (kept - 0) buffer) ≡ cut line
kept_line kept buffer moved line same is =
    let count : kept - 0 ≡ kept = omega arith in
    ap (λ n. cut (take n buffer)) count ∙ ap cut (same ∙ is) ∙ cut-cut line

-- a slice of a slice's length, as the code takes it
pub part_is : (bytes buffer : List ℕ) (at len : ℕ) → bytes ≡ buffer → take (at + len - at) (drop at bytes) ≡ take len (drop at buffer)
part_is bytes buffer at len same =
    let count : at + len - at ≡ len = omega arith in
    ap (λ all. take (at + len - at) (drop at all)) same ∙ ap (λ n. take n (drop at buffer)) count

-- a line that goes on by the next bytes
pub line_grows : (buffer : List ℕ) (from at more : ℕ) → from ≤ at → take (at + more - from) (drop from buffer) ≡ take (at - from) (drop from buffer) ++ take more (drop at buffer)
line_grows buffer from at more ordered =
    let sum : at + more - from ≡ (at - from) + more = omega arith in
    let back : from + (at - from) ≡ at = omega arith in
    ap (λ n. take n (drop from buffer)) sum
    ∙ take-add (at - from) more (drop from buffer)
    ∙ ap (λ r. take (at - from) (drop from buffer) ++ take more r) (drop-drop (at - from) from buffer ∙ ap (λ n. drop n buffer) back)

-- what belongs to no line yet, less its first k
shorter : (buffer : List ℕ) (at end k : ℕ) → take (end - at - k) (drop k (drop at buffer)) ≡ take (end - (at + k)) (drop (at + k) buffer)
shorter buffer at end k =
    let less : end - at - k ≡ end - (at + k) = omega arith in
    ap (λ n. take n (drop k (drop at buffer))) less ∙ ap (λ r. take (end - (at + k)) r) (drop-drop k at buffer)

-- what is taken with no newline after it
pub split_here : (buffer : List ℕ) (at end len : ℕ) → len ≤ end - at →
    take (end - at) (drop at buffer) ≡ take len (drop at buffer) ++ take (end - (at + len)) (drop (at + len) buffer)
split_here buffer at end len fits =
    let w = drop at buffer in
    let sum : len + (end - at - len) ≡ end - at = omega arith in
    ap (λ m. take m w) (sym sum) ∙ take-add len (end - at - len) w ∙ ap (λ r. take len w ++ r) (shorter buffer at end len)

-- what is taken with the newline after it
pub split_there : (buffer : List ℕ) (at end i : ℕ) → i < end - at → drop i (drop at buffer) ≡ 10 ∷ drop (i + 1) (drop at buffer) →
    take (end - at) (drop at buffer) ≡ take i (drop at buffer) ++ 10 ∷ take (end - (at + (i + 1))) (drop (at + (i + 1)) buffer)
split_there buffer at end i below there =
    let w = drop at buffer in
    let sum : i + suc (end - at - (i + 1)) ≡ end - at = omega arith in
    ap (λ m. take m w) (sym sum) ∙ take-add i (suc (end - at - (i + 1))) w ∙ ap (λ r. take i w ++ take (suc (end - at - (i + 1))) r) there
    ∙ ap (λ r. take i w ++ 10 ∷ r) (shorter buffer at end (i + 1))

-- a newline that stands in a part stands there in the whole
pub found_in_part : (w : List ℕ) (len i : ℕ) → len ≤ length w → i < length (take len w) → drop i (take len w) ≡ 10 ∷ drop (i + 1) (take len w) → drop i w ≡ 10 ∷ drop (i + 1) w
found_in_part w len i within below there =
    let small : i < len = omega (arith, length-take len w) in
    let here : i < length w = omega (arith, length-take len w) in
    let byte : get_or w i 0 ≡ 10 = sym (get_or-take len w i 0 small) ∙ first_of_drop (take len w) i below ∙ ap first_byte there in
    drop-cons w i 0 here ∙ ap (λ b. b ∷ drop (suc i) w) byte ∙ ap (λ n. 10 ∷ drop n w) (sym (add-one i))
  where
    first_byte : List ℕ → ℕ
    first_byte [] = 0
    first_byte (b ∷ bs) = b

    first_of_drop : (xs : List ℕ) (j : ℕ) → j < length xs → get_or xs j 0 ≡ first_byte (drop j xs)
    first_of_drop xs j lt = ap first_byte (sym (drop-cons xs j 0 lt))
