-- An order's lines are accepted where they stand.
use Rattle.std.proofs.Common.{◌≡◌, ℕ, ◌+◌, List, [], ◌∷◌, ◌++◌, length, cond, Bool, true, false, refl, ap, sym, ◌∙◌, subst, arith, append_assoc, length-append}
use Rattle.std.specs.Prelude.{◌==◌}
use Rattle.std.proofs.lemmas.Bool.{eq-eqb, eqb-true}
use Rattle.pm_types.specs.declared.shape.Shape.{Shape}
use Rattle.pm_model.specs.declared.line.Line.{Line}
use Rattle.pm_model.specs.Eval.{Pairs, after, is_accepted, accepted}
use Rattle.pm_model.proofs.Runs.{after-not_accepted}
use Rattle.pm_model.specs.Orders.{line_at, part_of_line, numbers_of, IsOrderOf, AreAccepted, part_rows}
use Rattle.pm_model.proofs.OrderNumbers.{line_after}
use Rattle.pm_model.proofs.PartitionRows.{accepted_by_rows, rows_here, rows_elsewhere}

-- in script order
script_applies : (shape : Shape) (from : ℕ) (done lines : List Line) (pairs : Pairs) → AreAccepted shape (accepted shape (from + length done) lines pairs) from (done ++ lines) pairs
script_applies shape from done [] pairs = tt
script_applies shape from done (line ∷ lines) pairs =
    let whole : List Line = done ++ line ∷ lines in
    let number = from + length done in
    let left = after shape line pairs in
    let numbers = accepted shape (number + 1) lines left in
    let next : from + length (done ++ line ∷ []) ≡ number + 1 = omega (arith, length-append done (line ∷ [])) in
    let here : line_at from whole number ≡ line = line_after from done line lines in
    let further : AreAccepted shape numbers from whole left =
    subst (λ (p : List Line × ℕ). AreAccepted shape (accepted shape p.1 lines left) from p.0 left) (λ i. (append_assoc done (line ∷ []) lines i, next i)) (script_applies shape from (done ++ line ∷ []) lines left) in
    let P : Bool → Type 0 = λ t. is_accepted shape line pairs ≡ t → AreAccepted shape (cond t (number ∷ numbers) numbers) from whole pairs in
    elim (is_accepted shape line pairs) as P [
      | true ↦ λ is. (ap (λ l. is_accepted shape l pairs) here ∙ is, subst (λ l. AreAccepted shape numbers from whole (after shape l pairs)) (sym here) further)
      | false ↦ λ isnt. subst (λ (m : Pairs). AreAccepted shape numbers from whole m) (after-not_accepted shape line pairs isnt) further
    ] refl

-- of some numbers the first ones
first_apply : (shape : Shape) (from : ℕ) (script : List Line) (xs ys : List ℕ) (pairs : Pairs) → AreAccepted shape (xs ++ ys) from script pairs → AreAccepted shape xs from script pairs
first_apply shape from script [] ys pairs all = tt
first_apply shape from script (x ∷ xs) ys pairs all = (all.0, first_apply shape from script xs ys (after shape (line_at from script x) pairs) all.1)

-- whether a line of a partition is accepted, by its rows
accepted_here : (shape : Shape) (part : ℕ) (line : Line) (pairs : Pairs) → (part_of_line shape line == part) ≡ true → is_accepted shape line (part_rows shape part pairs) ≡ is_accepted shape line pairs
accepted_here shape part line pairs is = subst (λ p. is_accepted shape line (part_rows shape p pairs) ≡ is_accepted shape line pairs) (eqb-true (part_of_line shape line) part is) (accepted_by_rows shape line pairs)

-- of each partition by itself
part_applies : (shape : Shape) (part from : ℕ) (script : List Line) (numbers : List ℕ) (pairs : Pairs) → AreAccepted shape numbers from script pairs → AreAccepted shape (numbers_of shape part from script numbers) from script (part_rows shape part pairs)
part_applies shape part from script [] pairs all = tt
part_applies shape part from script (number ∷ numbers) pairs all =
    let line = line_at from script number in
    let mine = numbers_of shape part from script numbers in
    let further : AreAccepted shape mine from script (part_rows shape part (after shape line pairs)) = part_applies shape part from script numbers (after shape line pairs) all.1 in
    let P : Bool → Type 0 = λ t. (part_of_line shape line == part) ≡ t → AreAccepted shape (cond t (number ∷ mine) mine) from script (part_rows shape part pairs) in
    elim (part_of_line shape line == part) as P [
      | true ↦ λ is. (accepted_here shape part line pairs is ∙ all.0, subst (λ (m : Pairs). AreAccepted shape mine from script m) (rows_here shape part line pairs is) further)
      | false ↦ λ isnt. subst (λ (m : Pairs). AreAccepted shape mine from script m) (rows_elsewhere shape part line pairs isnt) further
    ] refl

-- and of all, where so of each
all_apply : (shape : Shape) (from : ℕ) (script : List Line) (numbers : List ℕ) (pairs : Pairs) → ((part : ℕ) → AreAccepted shape (numbers_of shape part from script numbers) from script (part_rows shape part pairs)) → AreAccepted shape numbers from script pairs
all_apply shape from script [] pairs each = tt
all_apply shape from script (number ∷ numbers) pairs each =
    let line = line_at from script number in
    let own = part_of_line shape line in
    let own_is : (own == own) ≡ true = eq-eqb own own refl in
    let own_mine = numbers_of shape own from script numbers in
    let first : AreAccepted shape (number ∷ own_mine) from script (part_rows shape own pairs) = subst (λ t. AreAccepted shape (cond t (number ∷ own_mine) own_mine) from script (part_rows shape own pairs)) own_is (each own) in
    let rest : (part : ℕ) → AreAccepted shape (numbers_of shape part from script numbers) from script (part_rows shape part (after shape line pairs)) = λ part.
    let mine = numbers_of shape part from script numbers in
    let P : Bool → Type 0 = λ t. (own == part) ≡ t → AreAccepted shape (cond t (number ∷ mine) mine) from script (part_rows shape part pairs) → AreAccepted shape mine from script (part_rows shape part (after shape line pairs)) in
    elim (own == part) as P [
      | true ↦ λ is all. subst (λ (m : Pairs). AreAccepted shape mine from script m) (sym (rows_here shape part line pairs is)) all.1
      | false ↦ λ isnt all. subst (λ (m : Pairs). AreAccepted shape mine from script m) (sym (rows_elsewhere shape part line pairs isnt)) all
    ] refl (each part) in
    (sym (accepted_by_rows shape line pairs) ∙ first.0, all_apply shape from script numbers (after shape line pairs) rest)

-- an order can be applied
pub order_applies : (shape : Shape) (from : ℕ) (lines : List Line) (pairs : Pairs) (order : List ℕ) → IsOrderOf shape from lines pairs order → AreAccepted shape order from lines pairs
order_applies shape from lines pairs order is = all_apply shape from lines order pairs (λ part.
    let all = accepted shape from lines pairs in
    let here : from + 0 ≡ from = omega arith in
    let applies : AreAccepted shape all from lines pairs = subst (λ (k : ℕ). AreAccepted shape (accepted shape k lines pairs) from lines pairs) here (script_applies shape from [] lines pairs) in
    let rows = part_rows shape part pairs in
    let split = is.parts part in
    first_apply shape from lines (numbers_of shape part from lines order) split.0 rows
    (subst (λ (ns : List ℕ). AreAccepted shape ns from lines rows) split.1 (part_applies shape part from lines all pairs applies)))
