-- Drawn lines, one after the other.
use Rattle.std.proofs.Common.{◌≡◌, ℕ, zero, suc, ◌+◌, List, [], ◌∷◌, ◌++◌, length, refl, sym, ◌∙◌, ap, append_assoc, append-nil, arith}
use Rattle.pm_model.specs.declared.line.Line.{Line}
use Rattle.pm_tools.specs.DrawnLines.{after_line, drawn_line, drawn_lines}

-- there are as many as were asked for
pub length-drawn_lines : (x i count : ℕ) → length (drawn_lines x i count) ≡ count
length-drawn_lines x i zero = refl
length-drawn_lines x i (suc count) = ap suc (length-drawn_lines (after_line x) (i + 1) count)

-- these lines are drawn first, and then those from another number
abbrev pub DrawnFirst : ℕ → ℕ → ℕ → List Line → ℕ → Type 0
DrawnFirst x i count lines now = (more : ℕ) → drawn_lines x i (count + more) ≡ lines ++ drawn_lines now (i + count) more

-- none yet
pub drawn_none : (x i : ℕ) → DrawnFirst x i 0 [] x
drawn_none x i more =
    let none : 0 + more ≡ more = omega arith in
    let first : i ≡ i + 0 = omega arith in
    ap (drawn_lines x i) none ∙ ap (λ n. drawn_lines x n more) first

-- one more
pub drawn_one : (x i count : ℕ) (lines : List Line) (now : ℕ) → DrawnFirst x i count lines now → DrawnFirst x i (count + 1) (lines ++ drawn_line now (i + count) ∷ []) (after_line now)
drawn_one x i count lines now so_far more =
    let sum : count + 1 + more ≡ count + suc more = omega arith in
    let next : i + count + 1 ≡ i + (count + 1) = omega arith in
    ap (drawn_lines x i) sum ∙ so_far (suc more)
    ∙ sym (append_assoc lines (drawn_line now (i + count) ∷ []) (drawn_lines (after_line now) (i + count + 1) more))
    ∙ ap (λ n. (lines ++ drawn_line now (i + count) ∷ []) ++ drawn_lines (after_line now) n more) next

-- and others after them
pub drawn_more : (x i a b : ℕ) (first others : List Line) (mid now : ℕ) → DrawnFirst x i a first mid → DrawnFirst mid (i + a) b others now → DrawnFirst x i (a + b) (first ++ others) now
drawn_more x i a b first others mid now one two more =
    let sum : a + b + more ≡ a + (b + more) = omega arith in
    let next : i + a + b ≡ i + (a + b) = omega arith in
    ap (drawn_lines x i) sum ∙ one (b + more) ∙ ap (λ ls. first ++ ls) (two more)
    ∙ sym (append_assoc first others (drawn_lines now (i + a + b) more))
    ∙ ap (λ n. (first ++ others) ++ drawn_lines now n more) next

-- the lines are those
pub drawn_are : (x i count : ℕ) (lines : List Line) (now : ℕ) → DrawnFirst x i count lines now → drawn_lines x i count ≡ lines
drawn_are x i count lines now first =
    let same : count ≡ count + 0 = omega arith in
    ap (drawn_lines x i) same ∙ first 0 ∙ append-nil lines
