-- Replies that are found partition by partition, and where scans and checkpoints stand.
use Rattle.std.proofs.Common.{◌≡◌, inl, inr, ℕ, suc, ◌+◌, ◌<◌, List, [], ◌∷◌, ◌++◌, length, take, drop, cond, Bool, true, false, not, refl, ap, sym, ◌∙◌, subst, arith, append_assoc, length-append, get_or}
use Rattle.std.specs.Prelude.{filter, nat_lt}
use Rattle.std.specs.List.{All, AllPairs, Contains}
use Rattle.std.proofs.lemmas.Bool.{lt-ltb, ltb-true, cases_lt}
use Rattle.std.proofs.lemmas.List.{take_at, take-append-drop}
use Rattle.std.proofs.lemmas.List.Elements.{All-nil, All-cons, All-contains, Contains-append_left}
use Rattle.pm_types.specs.declared.shape.Shape.{Shape}
use Rattle.pm_model.specs.declared.line.Cmd.TheVariants.{Put, Get, Remove, Scan, Checkpoint}
use Rattle.pm_model.specs.declared.line.Line.{Line}
use Rattle.pm_model.specs.declared.line.Line.TheVariants.{Good, Bad, Long}
use Rattle.pm_model.specs.Eval.{Pairs, reply_to, after, is_accepted, replies_to, after_all, accepted}
use Rattle.pm_model.proofs.Runs.{accepted-append, after_all-append}
use Rattle.pm_model.specs.Orders.{line_at, after_numbers, part_of_line, numbers_of, is_barrier, MayPass, IsOrderOf, HasAccepted, part_rows, below, lines_of, reply_in, replies_in}
use Rattle.pm_model.proofs.OrderLists.{all_from_contains, kept_none, paired_rest, paired_weaker}
use Rattle.pm_model.proofs.OrderNumbers.{line_after}
use Rattle.pm_model.proofs.PartitionRows.{reply_by_rows, rows_after_all}
use Rattle.pm_model.proofs.OrderLaws.{map_before, reply_before, order_accepted}

-- what a partition's worker answers, who saw its own lines alone
pub reply_to_own : (shape : Shape) (done : List Line) (line : Line) (pairs : Pairs) → is_barrier line ≡ false
    → reply_to shape line (after_all shape (lines_of shape (part_of_line shape line) done) (part_rows shape (part_of_line shape line) pairs)) ≡ reply_to shape line (after_all shape done pairs)
reply_to_own shape done line pairs passable =
    ap (λ (m : Pairs). reply_to shape line m) (sym (rows_after_all shape (part_of_line shape line) done pairs)) ∙ reply_by_rows shape line (after_all shape done pairs) passable

-- an order that has the accepted ones among more lines has those among fewer
has_fewer : (shape : Shape) (from : ℕ) (done lines more : List Line) (pairs : Pairs) (order : List ℕ) → All (Contains order) (accepted shape from (done ++ lines) pairs) → All (Contains order) (accepted shape from done pairs)
has_fewer shape from done lines more pairs order has =
    let early = accepted shape from done pairs in
    let late = accepted shape (from + length done) lines (after_all shape done pairs) in
    all_from_contains (Contains order) early (λ n there.
    All-contains (Contains order) (early ++ late) n (subst (λ ns. All (Contains order) ns) (accepted-append shape from done lines pairs) has) (Contains-append_left early late n there))

-- one reply
reply_one : (shape : Shape) (from : ℕ) (done : List Line) (line : Line) (following : List Line) (pairs : Pairs) (order : List ℕ) → IsOrderOf shape from (done ++ line ∷ following) pairs order → All (Contains order) (accepted shape from done pairs)
    → reply_in shape from (done ++ line ∷ following) pairs order (from + length done) line ≡ reply_to shape line (after_all shape done pairs)
reply_one shape from done line following pairs order is has =
    let whole : List Line = done ++ line ∷ following in
    let front : take (length done) whole ≡ done = take_at done (line ∷ following) (length done) refl in
    let part = part_of_line shape line in
    let number = from + length done in
    let has_front : HasAccepted shape from whole pairs (length done) order = subst (λ ls. All (Contains order) (accepted shape from ls pairs)) (sym front) has in
    let all = after_numbers shape (below number order) from whole pairs in
    let own = after_numbers shape (below number (numbers_of shape part from whole order)) from whole (part_rows shape part pairs) in
    let P : Bool → Type 0 = λ t. is_barrier line ≡ t → reply_to shape line (cond t all own) ≡ reply_to shape line (after_all shape (take (length done) whole) pairs) in
    let at : reply_in shape from whole pairs order number line ≡ reply_to shape line (after_all shape (take (length done) whole) pairs) =
    elim (is_barrier line) as P [
      | true ↦ λ _. ap (λ (m : Pairs). reply_to shape line m) (map_before shape from whole pairs order is (length done) has_front)
      | false ↦ λ passable. reply_before shape from whole pairs order is (length done) line has_front passable
    ] refl in
    at ∙ ap (λ ls. reply_to shape line (after_all shape ls pairs)) front

-- the replies to lines after others
pub replies_after : (shape : Shape) (from : ℕ) (done lines following : List Line) (pairs : Pairs) (order : List ℕ) → IsOrderOf shape from (done ++ (lines ++ following)) pairs order → All (Contains order) (accepted shape from (done ++ lines) pairs)
    → replies_in shape from (done ++ (lines ++ following)) pairs order (from + length done) lines ≡ replies_to shape lines (after_all shape done pairs)
replies_after shape from done [] following pairs order is has = refl
replies_after shape from done (line ∷ lines) following pairs order is has =
    let whole : List Line = done ++ (line ∷ (lines ++ following)) in
    let one = reply_one shape from done line (lines ++ following) pairs order is (has_fewer shape from done (line ∷ lines) following pairs order has) in
    let regrouped : (done ++ line ∷ []) ++ (lines ++ following) ≡ whole = append_assoc done (line ∷ []) (lines ++ following) in
    let fewer : (done ++ line ∷ []) ++ lines ≡ done ++ (line ∷ lines) = append_assoc done (line ∷ []) lines in
    let number : from + length (done ++ line ∷ []) ≡ from + length done + 1 = omega (arith, length-append done (line ∷ [])) in
    let left : after_all shape (done ++ line ∷ []) pairs ≡ after shape line (after_all shape done pairs) = after_all-append shape done (line ∷ []) pairs in
    let further = replies_after shape from (done ++ line ∷ []) lines following pairs order
    (subst (λ ls. IsOrderOf shape from ls pairs order) (sym regrouped) is)
    (subst (λ ls. All (Contains order) (accepted shape from ls pairs)) (sym fewer) has) in
    let rest : replies_in shape from whole pairs order (from + length done + 1) lines ≡ replies_to shape lines (after shape line (after_all shape done pairs)) =
    sym (ap (λ (p : List Line × ℕ). replies_in shape from p.0 pairs order p.1 lines) (λ i. (regrouped i, number i)))
    ∙ further ∙ ap (replies_to shape lines) left in
    ap (λ r. r ∷ replies_in shape from whole pairs order (from + length done + 1) lines) one
    ∙ ap (λ rs. reply_to shape line (after_all shape done pairs) ∷ rs) rest

-- a line that is accepted is no scan and no checkpoint
passable : (shape : Shape) (line : Line) (pairs : Pairs) → is_accepted shape line pairs ≡ true → is_barrier line ≡ false
passable shape (Good (Put cache key value)) pairs _ = refl
passable shape (Good (Get cache key)) pairs _ = refl
passable shape (Good (Remove cache key)) pairs _ = refl
passable shape (Good (Scan cache)) pairs is = absurd cc
passable shape (Good Checkpoint) pairs is = absurd cc
passable shape Bad pairs _ = refl
passable shape Long pairs _ = refl

accepted_passable : (shape : Shape) (from : ℕ) (done lines : List Line) (pairs : Pairs) → All (λ n. is_barrier (line_at from (done ++ lines) n) ≡ false) (accepted shape (from + length done) lines pairs)
accepted_passable shape from done [] pairs = All-nil (λ n. is_barrier (line_at from (done ++ []) n) ≡ false)
accepted_passable shape from done (line ∷ lines) pairs =
    let whole : List Line = done ++ line ∷ lines in
    let Q : ℕ → Type 0 = λ n. is_barrier (line_at from whole n) ≡ false in
    let number = from + length done in
    let left = after shape line pairs in
    let next : from + length (done ++ line ∷ []) ≡ number + 1 = omega (arith, length-append done (line ∷ [])) in
    let further : All Q (accepted shape (number + 1) lines left) =
    subst (λ (p : List Line × ℕ). All (λ n. is_barrier (line_at from p.0 n) ≡ false) (accepted shape p.1 lines left)) (λ i. (append_assoc done (line ∷ []) lines i, next i)) (accepted_passable shape from (done ++ line ∷ []) lines left) in
    let P : Bool → Type 0 = λ t. is_accepted shape line pairs ≡ t → All Q (cond t (number ∷ accepted shape (number + 1) lines left) (accepted shape (number + 1) lines left)) in
    elim (is_accepted shape line pairs) as P [
      | true ↦ λ is. All-cons Q number (accepted shape (number + 1) lines left) (ap is_barrier (line_after from done line lines) ∙ passable shape line pairs is) further
      | false ↦ λ _. further
    ] refl

-- numbers of which none that passes a test stands after one that doesn't
parted : (test : ℕ → Bool) (xs : List ℕ) → AllPairs (λ a b. test b ≡ true → test a ≡ true) xs → xs ≡ filter test xs ++ filter (λ n. not (test n)) xs
parted test [] turns = refl
parted test (x ∷ xs) turns =
    let R = λ (a b : ℕ). test b ≡ true → test a ≡ true in
    let further = parted test xs (paired_rest R x xs turns) in
    let out = filter (λ n. not (test n)) xs in
    let P : Bool → Type 0 = λ t. test x ≡ t → x ∷ xs ≡ cond t (x ∷ filter test xs) (filter test xs) ++ cond (not t) (x ∷ out) out in
    elim (test x) as P [
      | true ↦ λ _. ap (λ r. x ∷ r) further
      | false ↦ λ isnt.
          let none : filter test xs ≡ [] = kept_none test xs (λ k d within.
          let B : Bool → Type 0 = λ t. (t ≡ true → test x ≡ true) → t ≡ false in
          elim (test (get_or xs k d)) as B [
            | true ↦ λ follows. absurd (let clash : false ≡ true = sym isnt ∙ follows refl in absurd cc)
            | false ↦ λ _. refl
          ] (turns 0 (suc k) d (omega arith) (omega (arith, within)))) in
          ap (λ r. x ∷ r) (further ∙ ap (λ f. f ++ out) none) ∙ sym (ap (λ f. f ++ (x ∷ out)) none)
    ] refl

-- a scan or a checkpoint parts an order: the numbers below its own stand in front of the others
pub barrier_parts : (shape : Shape) (from : ℕ) (lines : List Line) (pairs : Pairs) (order : List ℕ) (number : ℕ) → IsOrderOf shape from lines pairs order → is_barrier (line_at from lines number) ≡ true → order ≡ below number order ++ filter (λ n. not (nat_lt n number)) order
barrier_parts shape from lines pairs order number is barrier =
    let low = λ (n : ℕ). nat_lt n number in
    let here : from + 0 ≡ from = omega arith in
    let all = accepted shape from lines pairs in
    let may : All (λ n. is_barrier (line_at from lines n) ≡ false) all = subst (λ (k : ℕ). All (λ n. is_barrier (line_at from lines n) ≡ false) (accepted shape k lines pairs)) here (accepted_passable shape from [] lines pairs) in
    parted low order (paired_weaker (λ a b. b < a → MayPass from lines a b) (λ a b. low b ≡ true → low a ≡ true) order (λ a b at_a at_b passes low_b.
    let less = ltb-true b number low_b in
    elim (cases_lt a number) [
      | inl below_it ↦ lt-ltb a number below_it
      | inr past ↦ elim (cases_lt number a) [
        | inl above ↦ absurd (let clash : true ≡ false = sym barrier ∙ (passes (omega (arith, less, above))).free number less above in absurd cc)
        | inr same ↦ absurd (
            let is_it : a ≡ number = omega (arith, past, same) in
            let open_a : is_barrier (line_at from lines a) ≡ false = All-contains (λ n. is_barrier (line_at from lines n) ≡ false) all a may (All-contains (Contains all) order a (order_accepted shape from lines pairs order is) at_a) in
            let clash : true ≡ false = sym barrier ∙ ap (λ n. is_barrier (line_at from lines n)) (sym is_it) ∙ open_a in absurd cc)
      ]
    ]) is.passes)

-- the replies to the first lines
pub replies_first : (shape : Shape) (from : ℕ) (lines : List Line) (pairs : Pairs) (order : List ℕ) (count : ℕ) → IsOrderOf shape from lines pairs order → HasAccepted shape from lines pairs count order → replies_in shape from lines pairs order from (take count lines) ≡ replies_to shape (take count lines) pairs
replies_first shape from lines pairs order count is has =
    let whole : take count lines ++ drop count lines ≡ lines = take-append-drop count lines in
    let here : from + 0 ≡ from = omega arith in
    sym (ap (λ (p : List Line × ℕ). replies_in shape from p.0 pairs order p.1 (take count lines)) (λ i. (whole i, here i)))
    ∙ replies_after shape from [] (take count lines) (drop count lines) pairs order (subst (λ ls. IsOrderOf shape from ls pairs order) (sym whole) is) has
