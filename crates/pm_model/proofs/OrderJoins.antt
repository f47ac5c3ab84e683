-- Orders of lines that follow each other.
use Rattle.std.proofs.Common.{◌≡◌, ℕ, zero, suc, ◌+◌, ◌-◌, ◌<◌, ◌≤◌, List, [], ◌∷◌, ◌++◌, length, take, Bool, refl, ap, sym, ◌∙◌, subst, arith, append_assoc}
use Rattle.std.specs.Prelude.{filter, ◌==◌, slice_get, unwrap_or}
use Rattle.std.specs.List.{All, Contains}
use Rattle.std.proofs.Math.Seq.{take-append-add}
use Rattle.std.proofs.lemmas.List.{take_all}
use Rattle.std.proofs.lemmas.List.Elements.{All-contains, All-append, Contains-append_left, Contains-append_right, filter-append, All-weaker}
use Rattle.pm_types.specs.declared.shape.Shape.{Shape}
use Rattle.pm_model.specs.declared.line.Line.{Line}
use Rattle.pm_model.specs.declared.line.Line.TheVariants.{Bad}
use Rattle.pm_model.specs.Eval.{Pairs, after_all, accepted}
use Rattle.pm_model.proofs.Runs.{accepted-append}
use Rattle.pm_model.specs.Orders.{line_at, part_of_line, is_barrier, MayPass, IsOrderOf, HasTried}
use Rattle.pm_model.proofs.OrderLists.{kept_same, paired_weaker, paired_append}
use Rattle.pm_model.proofs.OrderNumbers.{accepted_from}
use Rattle.pm_model.proofs.OrderLaws.{order_accepted, whole_part}

get_front : (xs ys : List Line) (i : ℕ) → i < length xs → slice_get (xs ++ ys) i ≡ slice_get xs i
get_front [] ys i within = absurd (omega (arith, within))
get_front (x ∷ xs) ys zero within = refl
get_front (x ∷ xs) ys (suc i) within = get_front xs ys i (omega (arith, within))

get_back : (xs ys : List Line) (i : ℕ) → slice_get (xs ++ ys) (length xs + i) ≡ slice_get ys i
get_back [] ys i = ap (slice_get ys) (let none : 0 + i ≡ i = omega arith in none)
get_back (x ∷ xs) ys i = ap (slice_get (x ∷ xs ++ ys)) (let next : length (x ∷ xs) + i ≡ suc (length xs + i) = omega arith in next) ∙ get_back xs ys i

-- the lines in front are those of the whole
line_front : (from : ℕ) (done lines : List Line) (n : ℕ) → from ≤ n → n < from + length done → line_at from (done ++ lines) n ≡ line_at from done n
line_front from done lines n le less = ap (λ o. unwrap_or o Bad) (get_front done lines (n - from) (omega (arith, le, less)))

-- and those after
line_back : (from : ℕ) (done lines : List Line) (n : ℕ) → from + length done ≤ n → line_at from (done ++ lines) n ≡ line_at (from + length done) lines n
line_back from done lines n le =
    let place : n - from ≡ length done + (n - (from + length done)) = omega (arith, le) in
    ap (λ i. unwrap_or (slice_get (done ++ lines) i) Bad) place ∙ ap (λ o. unwrap_or o Bad) (get_back done lines (n - (from + length done)))

-- each number of an order is at least the first
order_from : (shape : Shape) (from : ℕ) (lines : List Line) (pairs : Pairs) (order : List ℕ) → IsOrderOf shape from lines pairs order → (n : ℕ) → Contains order n → from ≤ n
order_from shape from lines pairs order is n there =
    All-contains (λ n. from ≤ n) (accepted shape from lines pairs) n (accepted_from shape from lines pairs) (All-contains (Contains (accepted shape from lines pairs)) order n (order_accepted shape from lines pairs order is) there)

module _ (shape : Shape) (from : ℕ) (done lines : List Line) (pairs : Pairs) (before next : List ℕ) (was : HasTried shape from done pairs (length done) 0 before) (goes : IsOrderOf shape (from + length done) lines (after_all shape done pairs) next) where
  abbrev both : List Line
  both = done ++ lines

  abbrev following : ℕ
  following = from + length done

  -- a number of the lines that are done
  low : (n : ℕ) → Contains before n → n < following
  low n there = let small = All-contains (λ n. n < from + length done + 0) before n was.within there in omega (arith, small)

  abbrev from_low : (n : ℕ) → Contains before n → from ≤ n
  from_low n there = order_from shape from done pairs before was.is_order n there

  abbrev high : (n : ℕ) → Contains next n → following ≤ n
  high n there = order_from shape following lines (after_all shape done pairs) next goes n there

  -- an order of lines is gone on by an order of those after them
  pub joined_order : IsOrderOf shape from both pairs (before ++ next)
  joined_order = record {
    parts = λ part.
        let of : List Line → ℕ → Bool = λ ls n. part_of_line shape (line_at from ls n) == part in
        let of_more : ℕ → Bool = λ n. part_of_line shape (line_at following lines n) == part in
        let all_done = accepted shape from done pairs in
        let all_more = accepted shape following lines (after_all shape done pairs) in
        let old = filter (of both) before in
        let new = filter (of both) next in
        let front : filter (of both) all_done ≡ old =
        kept_same (of both) (of done) all_done (λ n there. ap (λ l. part_of_line shape l == part)
        (line_front from done lines n (All-contains (λ n. from ≤ n) all_done n (accepted_from shape from done pairs) there) (small n there)))
        ∙ whole_part shape from done pairs before was.is_order was.has part
        ∙ sym (kept_same (of both) (of done) before (λ n there. ap (λ l. part_of_line shape l == part) (line_front from done lines n (from_low n there) (low n there)))) in
        let back : filter (of both) all_more ≡ new ++ (goes.parts part).0 =
        kept_same (of both) of_more all_more (λ n there. ap (λ l. part_of_line shape l == part)
        (line_back from done lines n (All-contains (λ n. following ≤ n) all_more n (accepted_from shape following lines (after_all shape done pairs)) there)))
        ∙ (goes.parts part).1
        ∙ ap (λ ns. ns ++ (goes.parts part).0) (sym (kept_same (of both) of_more next (λ n there. ap (λ l. part_of_line shape l == part) (line_back from done lines n (high n there))))) in (
          (goes.parts part).0,
          ap (filter (of both)) (accepted-append shape from done lines pairs)
              ∙ filter-append (of both) all_done all_more
              ∙ ap (λ ns. ns ++ filter (of both) all_more) front
              ∙ ap (λ ns. old ++ ns) back
              ∙ sym (append_assoc old new (goes.parts part).0)
              ∙ ap (λ ns. ns ++ (goes.parts part).0) (sym (filter-append (of both) before next)),
        );
    passes = paired_append (λ a b. b < a → MayPass from both a b) before next
        (paired_weaker (λ a b. b < a → MayPass from done a b) (λ a b. b < a → MayPass from both a b) before (λ a b at_a at_b may passed. record {
          near = (may passed).near;
          free = λ n after_b before_a. ap is_barrier (line_front from done lines n (let least = from_low b at_b in omega (arith, least, after_b)) (let most = low a at_a in omega (arith, most, before_a))) ∙ (may passed).free n after_b before_a;
        }) was.is_order.passes)
        (paired_weaker (λ a b. b < a → MayPass following lines a b) (λ a b. b < a → MayPass from both a b) next (λ a b at_a at_b may passed. record {
          near = (may passed).near;
          free = λ n after_b before_a. ap is_barrier (line_back from done lines n (let least = high b at_b in omega (arith, least, after_b))) ∙ (may passed).free n after_b before_a;
        }) goes.passes)
        (λ a b at_a at_b passed. absurd (let less = low a at_a in let more = high b at_b in omega (arith, less, more, passed)));
  }
    where
      small : (n : ℕ) → Contains (accepted shape from done pairs) n → n < following
      small n there = low n (All-contains (Contains before) (accepted shape from done pairs) n (subst (λ ls. All (Contains before) (accepted shape from ls pairs)) (take_all (length done) done (omega arith)) was.has) there)

-- how far it went, joined
pub joined_tried : (shape : Shape) (from : ℕ) (done lines : List Line) (pairs : Pairs) (before next : List ℕ) (count more : ℕ) → HasTried shape from done pairs (length done) 0 before → HasTried shape (from + length done) lines (after_all shape done pairs) count more next → HasTried shape from (done ++ lines) pairs (length done + count) more (before ++ next)
joined_tried shape from done lines pairs before next count more was goes =
    let whole : take (length done) done ≡ done = take_all (length done) done (omega arith) in
    let now : take (length done + count) (done ++ lines) ≡ done ++ take count lines = take-append-add done lines count in
    let all_done = accepted shape from done pairs in
    let all_more = accepted shape (from + length done) (take count lines) (after_all shape done pairs) in
    let split : accepted shape from (take (length done + count) (done ++ lines)) pairs ≡ all_done ++ all_more = ap (λ ls. accepted shape from ls pairs) now ∙ accepted-append shape from done (take count lines) pairs in
    let old : All (Contains before) all_done = subst (λ ls. All (Contains before) (accepted shape from ls pairs)) whole was.has in
    record {
      is_order = joined_order shape from done lines pairs before next was goes.is_order;
      has = subst (λ ns. All (Contains (before ++ next)) ns) (sym split) (All-append (Contains (before ++ next)) all_done all_more
          (All-weaker (Contains before) (Contains (before ++ next)) (λ n there. Contains-append_left before next n there) all_done old)
          (All-weaker (Contains next) (Contains (before ++ next)) (λ n there. Contains-append_right before next n there) all_more goes.has));
      within = All-append (λ n. n < from + (length done + count) + more) before next
          (All-weaker (λ n. n < from + length done + 0) (λ n. n < from + (length done + count) + more) (λ n less. omega (arith, less)) before was.within)
          (All-weaker (λ n. n < from + length done + count + more) (λ n. n < from + (length done + count) + more) (λ n less. omega (arith, less)) next goes.within);
    }
