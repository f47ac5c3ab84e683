-- The numbers of accepted lines.
use Rattle.std.proofs.Common.{◌≡◌, ℕ, zero, suc, ◌+◌, ◌-◌, ◌<◌, ◌≤◌, List, [], ◌∷◌, ◌++◌, length, take, cond, Bool, true, false, refl, ap, sym, ◌∙◌, subst, arith, append_assoc, length-append}
use Rattle.std.specs.Prelude.{nat_lt, slice_get, unwrap_or, Some}
use Rattle.std.specs.List.{All}
use Rattle.std.proofs.lemmas.Bool.{lt-ltb, le-ltb}
use Rattle.std.proofs.lemmas.List.Elements.{All-nil, All-cons, All-weaker}
use Rattle.std.proofs.lemmas.List.Kept.{AllPairs-cons}
use Rattle.pm_types.specs.declared.shape.Shape.{Shape}
use Rattle.pm_model.specs.declared.line.Line.{Line}
use Rattle.pm_model.specs.declared.line.Line.TheVariants.{Bad}
use Rattle.pm_model.specs.Eval.{Pairs, after, is_accepted, after_all, accepted}
use Rattle.pm_model.proofs.Runs.{after-not_accepted}
use Rattle.pm_model.specs.Orders.{line_at, after_numbers, below}
use Rattle.pm_model.proofs.OrderLists.{Rises, none_paired, kept_none}

-- none is below the first line's
pub accepted_from : (shape : Shape) (number : ℕ) (lines : List Line) (pairs : Pairs) → All (λ n. number ≤ n) (accepted shape number lines pairs)
accepted_from shape number [] pairs = All-nil (λ n. number ≤ n)
accepted_from shape number (line ∷ lines) pairs =
    let rest = accepted shape (number + 1) lines (after shape line pairs) in
    let further : All (λ n. number ≤ n) rest = All-weaker (λ n. number + 1 ≤ n) (λ n. number ≤ n) (λ n le. omega (arith, le)) rest (accepted_from shape (number + 1) lines (after shape line pairs)) in
    elim (is_accepted shape line pairs) as (λ t. All (λ n. number ≤ n) (cond t (number ∷ rest) rest)) [
      | true ↦ All-cons (λ n. number ≤ n) number rest (omega arith) further
      | false ↦ further
    ]

-- they rise
pub accepted_rise : (shape : Shape) (number : ℕ) (lines : List Line) (pairs : Pairs) → Rises (accepted shape number lines pairs)
accepted_rise shape number [] pairs = none_paired (λ a b. a < b)
accepted_rise shape number (line ∷ lines) pairs =
    let rest = accepted shape (number + 1) lines (after shape line pairs) in
    let above : All (λ n. number < n) rest = All-weaker (λ n. number + 1 ≤ n) (λ n. number < n) (λ n le. omega (arith, le)) rest (accepted_from shape (number + 1) lines (after shape line pairs)) in
    let further : Rises rest = accepted_rise shape (number + 1) lines (after shape line pairs) in
    elim (is_accepted shape line pairs) as (λ t. Rises (cond t (number ∷ rest) rest)) [
      | true ↦ AllPairs-cons (λ a b. a < b) number rest above further
      | false ↦ further
    ]

-- those of the first lines are those below the next line's number
pub accepted_first : (shape : Shape) (number n : ℕ) (lines : List Line) (pairs : Pairs) → accepted shape number (take n lines) pairs ≡ below (number + n) (accepted shape number lines pairs)
accepted_first shape number zero [] pairs = refl
accepted_first shape number (suc n) [] pairs = refl
accepted_first shape number zero (line ∷ lines) pairs =
    let all = accepted shape number (line ∷ lines) pairs in
    sym (kept_none (λ m. nat_lt m (number + 0)) all (All-weaker (λ m. number ≤ m) (λ m. nat_lt m (number + 0) ≡ false) (λ m le. le-ltb m (number + 0) (omega (arith, le))) all (accepted_from shape number (line ∷ lines) pairs)))
accepted_first shape number (suc n) (line ∷ lines) pairs =
    let rest = accepted shape (number + 1) lines (after shape line pairs) in
    let first = accepted shape (number + 1) (take n lines) (after shape line pairs) in
    let limit : number + 1 + n ≡ number + suc n = omega arith in
    let further : first ≡ below (number + suc n) rest = accepted_first shape (number + 1) n lines (after shape line pairs) ∙ ap (λ l. below l rest) limit in
    let here : nat_lt number (number + suc n) ≡ true = lt-ltb number (number + suc n) (omega arith) in
    elim (is_accepted shape line pairs) as (λ t. cond t (number ∷ first) first ≡ below (number + suc n) (cond t (number ∷ rest) rest)) [
      | true ↦ ap (λ r. number ∷ r) further ∙ sym (ap (λ t. cond t (number ∷ below (number + suc n) rest) (below (number + suc n) rest)) here)
      | false ↦ further
    ]

-- the first element after others
slice_get-after : (xs ys : List Line) (y : Line) → slice_get (xs ++ y ∷ ys) (length xs) ≡ Some y
slice_get-after [] ys y = refl
slice_get-after (x ∷ xs) ys y = slice_get-after xs ys y

-- the line whose number is that after others
pub line_after : (from : ℕ) (skipped : List Line) (line : Line) (more : List Line) → line_at from (skipped ++ line ∷ more) (from + length skipped) ≡ line
line_after from skipped line more =
    let at : from + length skipped - from ≡ length skipped = omega arith in
    ap (λ n. unwrap_or (slice_get (skipped ++ line ∷ more) n) Bad) at ∙ ap (λ o. unwrap_or o Bad) (slice_get-after skipped more line)

-- the lines with the numbers of the accepted ones leave the map that all lines leave
pub after_accepted : (shape : Shape) (from : ℕ) (skipped lines more : List Line) (pairs : Pairs) → after_numbers shape (accepted shape (from + length skipped) lines pairs) from (skipped ++ (lines ++ more)) pairs ≡ after_all shape lines pairs
after_accepted shape from skipped [] more pairs = refl
after_accepted shape from skipped (line ∷ lines) more pairs =
    let script : List Line = skipped ++ (line ∷ (lines ++ more)) in
    let number = from + length skipped in
    let left = after shape line pairs in
    let next : from + length (skipped ++ line ∷ []) ≡ number + 1 = omega (arith, length-append skipped (line ∷ [])) in
    let regrouped : (skipped ++ line ∷ []) ++ (lines ++ more) ≡ script = append_assoc skipped (line ∷ []) (lines ++ more) in
    let rest : after_numbers shape (accepted shape (number + 1) lines left) from script left ≡ after_all shape lines left =
    subst (λ (p : ℕ × List Line). after_numbers shape (accepted shape p.0 lines left) from p.1 left ≡ after_all shape lines left) (λ i. (next i, regrouped i)) (after_accepted shape from (skipped ++ line ∷ []) lines more left) in
    let numbers = accepted shape (number + 1) lines left in
    let P : Bool → Type 0 = λ t. is_accepted shape line pairs ≡ t → after_numbers shape (cond t (number ∷ numbers) numbers) from script pairs ≡ after_all shape lines left in
    elim (is_accepted shape line pairs) as P [
      | true ↦ λ _. ap (λ (l : Line). after_numbers shape numbers from script (after shape l pairs)) (line_after from skipped line (lines ++ more)) ∙ rest
      | false ↦ λ isnt. ap (λ (m : Pairs). after_numbers shape numbers from script m) (sym (after-not_accepted shape line pairs isnt)) ∙ rest
    ] refl
