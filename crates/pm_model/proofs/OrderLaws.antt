-- What holds of each order of a script's accepted lines.
use Rattle.std.proofs.Common.{inr, inl, get_or, ◌-◌, ◌≡◌, ℕ, suc, ◌+◌, ◌<◌, ◌≤◌, List, [], ◌∷◌, ◌++◌, length, take, drop, cond, Bool, true, false, refl, ap, sym, ◌∙◌, subst, arith, append-nil, append_assoc}
use Rattle.std.specs.Prelude.{nat_lt, ◌==◌}
use Rattle.std.specs.List.{All, AllPairs, Contains}
use Rattle.std.proofs.lemmas.Bool.{lt-ltb, ltb-true, eq-eqb}
use Rattle.std.proofs.lemmas.List.{take_all, take-append-drop, take-append-le}
use Rattle.std.proofs.lemmas.List.Elements.{Contains-append_cases, All-contains, Contains-append_left, filter-append, filter_passes, All-weaker}
use Rattle.std.proofs.lemmas.List.Kept.{AllPairs-filter, AllPairs-cons}
use Rattle.std.proofs.lemmas.Option.{unwrap_or-slice_get}
use Rattle.std.proofs.lemmas.List.Elements.{Contains-get_or}
use Rattle.pm_types.specs.declared.limits.TheConstants.{BATCH_LINES_MAX}
use Rattle.pm_types.specs.declared.shape.Shape.{Shape}
use Rattle.pm_model.specs.declared.line.Line.TheVariants.{Bad}
use Rattle.pm_model.specs.declared.line.Line.{Line}
use Rattle.pm_model.specs.Eval.{Pairs, reply_to, after_all, accepted}
use Rattle.pm_model.proofs.Runs.{accepted-append}
use Rattle.pm_model.specs.Orders.{line_at, after_numbers, part_of_line, numbers_of, IsPrefix, is_barrier, MayPass, IsOrderOf, HasAccepted, HasTried, part_rows, below}
use Rattle.pm_model.proofs.OrderLists.{paired_across, Rises, none_paired, contains_kept, contains_unkept, kept_passes, all_from_contains, kept_both, paired_front, paired_rest, none_after, all_in_front, longer_has, has_longer, kept_twice, kept_all, contains_more, take_first}
use Rattle.pm_model.proofs.OrderNumbers.{accepted_from, accepted_rise, accepted_first, after_accepted}
use Rattle.pm_model.proofs.PartitionRows.{same_rows, rows_after_numbers, reply_by_rows}

-- rising numbers pass none
rises_passes : (from : ℕ) (script : List Line) (numbers : List ℕ) → Rises numbers → AllPairs (λ a b. b < a → MayPass from script a b) numbers
rises_passes from script numbers rises = λ i j d before within passed. absurd (omega (arith, passed, rises i j d before within))

-- the numbers of the first lines' accepted ones, and the others
split_accepted : (shape : Shape) (from : ℕ) (script : List Line) (pairs : Pairs) (lines : ℕ) → (rest : List ℕ) × (accepted shape from script pairs ≡ accepted shape from (take lines script) pairs ++ rest)
split_accepted shape from script pairs lines =
    (_, ap (λ s. accepted shape from s pairs) (sym (take-append-drop lines script)) ∙ accepted-append shape from (take lines script) (drop lines script) pairs)

-- script order is an order, as far as it goes
pub script_order : (shape : Shape) (from : ℕ) (script : List Line) (pairs : Pairs) (lines : ℕ) → IsOrderOf shape from script pairs (accepted shape from (take lines script) pairs)
script_order shape from script pairs lines =
    let first = accepted shape from (take lines script) pairs in
    let split = split_accepted shape from script pairs lines in
    record {
      parts = λ part. (numbers_of shape part from script split.0, ap (numbers_of shape part from script) split.1 ∙ filter-append (λ n. part_of_line shape (line_at from script n) == part) first split.0);
      passes = rises_passes from script first (accepted_rise shape from (take lines script) pairs);
    }

-- and has all of these lines
pub script_has : (shape : Shape) (from : ℕ) (script : List Line) (pairs : Pairs) (lines : ℕ) → HasAccepted shape from script pairs lines (accepted shape from (take lines script) pairs)
script_has shape from script pairs lines = let first = accepted shape from (take lines script) pairs in all_from_contains (Contains first) first (λ n there. there)

-- the first of an order's numbers are an order
pub first_order : (shape : Shape) (from : ℕ) (script : List Line) (pairs : Pairs) (order : List ℕ) (count : ℕ) → IsOrderOf shape from script pairs order → IsOrderOf shape from script pairs (take count order)
first_order shape from script pairs order count is =
    let first = take count order in
    let following = drop count order in
    let whole : first ++ following ≡ order = take-append-drop count order in
    record {
      parts = λ part.
          let mine : List ℕ → List ℕ = numbers_of shape part from script in
          let split : mine order ≡ mine first ++ mine following = ap mine (sym whole) ∙ filter-append (λ n. part_of_line shape (line_at from script n) == part) first following in
          let rest = is.parts part in
          (mine following ++ rest.0, rest.1 ∙ ap (λ f. f ++ rest.0) split ∙ append_assoc (mine first) (mine following) rest.0);
      passes =
          let R = λ (a b : ℕ). b < a → MayPass from script a b in
          paired_front R first following (subst (λ (o : List ℕ). AllPairs R o) (sym whole) is.passes);
    }

-- a partition's numbers in the order, and the others of its accepted lines, rise
parts_rise : (shape : Shape) (from : ℕ) (script : List Line) (pairs : Pairs) (order : List ℕ) (part : ℕ) (is : IsOrderOf shape from script pairs order) → Rises (numbers_of shape part from script order ++ (is.parts part).0)
parts_rise shape from script pairs order part is =
    subst (λ (ns : List ℕ). Rises ns) (is.parts part).1 (AllPairs-filter (λ a b. a < b) (λ n. part_of_line shape (line_at from script n) == part) (accepted shape from script pairs) (accepted_rise shape from script pairs))

-- each number is of its own partition
own_part : (shape : Shape) (from : ℕ) (script : List Line) (n : ℕ) → (part_of_line shape (line_at from script n) == part_of_line shape (line_at from script n)) ≡ true
own_part shape from script n = eq-eqb (part_of_line shape (line_at from script n)) (part_of_line shape (line_at from script n)) refl

-- each number of an order is an accepted line's
pub parts_accepted : (shape : Shape) (from : ℕ) (script : List Line) (pairs : Pairs) (order : List ℕ) → ((part : ℕ) → IsPrefix (numbers_of shape part from script order) (numbers_of shape part from script (accepted shape from script pairs))) → All (Contains (accepted shape from script pairs)) order
parts_accepted shape from script pairs order parts = all_from_contains (Contains (accepted shape from script pairs)) order (λ n there.
    let part = part_of_line shape (line_at from script n) in
    let test = λ (m : ℕ). part_of_line shape (line_at from script m) == part in
    let mine : Contains (numbers_of shape part from script order) n = contains_kept test order n there (own_part shape from script n) in
    let all = numbers_of shape part from script (accepted shape from script pairs) in
    let found : Contains all n = subst (λ (ns : List ℕ). Contains ns n) (sym (parts part).1) (Contains-append_left (numbers_of shape part from script order) (parts part).0 n mine) in
    contains_unkept test (accepted shape from script pairs) n found)

pub order_accepted : (shape : Shape) (from : ℕ) (script : List Line) (pairs : Pairs) (order : List ℕ) → IsOrderOf shape from script pairs order → All (Contains (accepted shape from script pairs)) order
order_accepted shape from script pairs order is = parts_accepted shape from script pairs order is.parts

-- of few lines without a scan or a checkpoint, the partitions' prefixes alone make an order
pub order_of_batch : (shape : Shape) (from : ℕ) (script : List Line) (pairs : Pairs) (order : List ℕ) → length script ≤ BATCH_LINES_MAX → All (λ line. is_barrier line ≡ false) script
    → ((part : ℕ) → IsPrefix (numbers_of shape part from script order) (numbers_of shape part from script (accepted shape from script pairs))) → IsOrderOf shape from script pairs order
order_of_batch shape from script pairs order few free parts =
    let all = accepted shape from script pairs in
    let low = λ (n : ℕ). nat_lt n (from + length script) in
    let whole : all ≡ below (from + length script) all = ap (λ (s : List Line). accepted shape from s pairs) (sym (take_all (length script) script (omega arith))) ∙ accepted_first shape from (length script) script pairs in
    let least : (n : ℕ) → Contains order n → from ≤ n = λ n there. All-contains (λ n. from ≤ n) all n (accepted_from shape from script pairs) (All-contains (Contains all) order n (parts_accepted shape from script pairs order parts) there) in
    let most : (n : ℕ) → Contains order n → n < from + length script = λ n there.
    ltb-true n (from + length script) (kept_passes low all n (subst (λ (ns : List ℕ). Contains ns n) whole (All-contains (Contains all) order n (parts_accepted shape from script pairs order parts) there))) in
    record {
      parts = parts;
      passes = λ i j d before within passed.
          let a = get_or order i d in
          let b = get_or order j d in
          let at_a = Contains-get_or order i d (omega (arith, before, within)) in
          let at_b = Contains-get_or order j d within in
          let a_most = most a at_a in
          let b_least = least b at_b in
          record {
            near = omega (arith, a_most, b_least, few);
            free = λ n after_b before_a. ap is_barrier (unwrap_or-slice_get script (n - from) Bad) ∙ free (n - from) Bad (omega (arith, after_b, before_a, a_most, b_least));
          };
    }

-- where each partition's numbers rise, those of one partition rise in the whole
parts_apart : (shape : Shape) (from : ℕ) (script : List Line) (numbers : List ℕ) → ((part : ℕ) → Rises (numbers_of shape part from script numbers)) → AllPairs (λ a b. part_of_line shape (line_at from script a) ≡ part_of_line shape (line_at from script b) → a < b) numbers
parts_apart shape from script [] rises = none_paired (λ a b. part_of_line shape (line_at from script a) ≡ part_of_line shape (line_at from script b) → a < b)
parts_apart shape from script (n ∷ numbers) rises =
    let R = λ (a b : ℕ). part_of_line shape (line_at from script a) ≡ part_of_line shape (line_at from script b) → a < b in
    let part = part_of_line shape (line_at from script n) in
    let test = λ (m : ℕ). part_of_line shape (line_at from script m) == part in
    let mine = numbers_of shape part from script numbers in
    let here : Rises (n ∷ mine) = subst (λ (ns : List ℕ). Rises ns) (ap (λ t. cond t (n ∷ mine) mine) (own_part shape from script n)) (rises part) in
    let later : (m : ℕ) → Contains numbers m → R n m = λ m there same.
    let found : Contains mine m = contains_kept test numbers m there (eq-eqb (part_of_line shape (line_at from script m)) part (sym same)) in
    let less = here 0 (suc found.0) m (omega arith) (omega (arith, found.1)) in
    omega (arith, less, found.2) in
    let others : (p : ℕ) → Rises (numbers_of shape p from script numbers) = λ p.
    let rest = numbers_of shape p from script numbers in
    let P : Bool → Type 0 = λ t. Rises (cond t (n ∷ rest) rest) → Rises rest in
    elim (part_of_line shape (line_at from script n) == p) as P [ true ↦ λ all. paired_rest (λ a b. a < b) n rest all | false ↦ λ all. all ] (rises p) in
    AllPairs-cons R n numbers (all_from_contains (R n) numbers later) (parts_apart shape from script numbers others)

-- an order's numbers of one partition rise
pub order_rises : (shape : Shape) (from : ℕ) (script : List Line) (pairs : Pairs) (order : List ℕ) → IsOrderOf shape from script pairs order → AllPairs (λ a b. part_of_line shape (line_at from script a) ≡ part_of_line shape (line_at from script b) → a < b) order
order_rises shape from script pairs order is = parts_apart shape from script order (λ part. paired_front (λ a b. a < b) (numbers_of shape part from script order) (is.parts part).0 (parts_rise shape from script pairs order part is))

module _ (shape : Shape) (from : ℕ) (script : List Line) (pairs : Pairs) (order : List ℕ) (is : IsOrderOf shape from script pairs order) where
  -- an order that has each accepted line among the first ones has of each partition the same ones as script order
  first_of_part : (lines : ℕ) → HasAccepted shape from script pairs lines order → (part : ℕ) → below (from + lines) (numbers_of shape part from script order) ≡ numbers_of shape part from script (accepted shape from (take lines script) pairs)
  first_of_part lines has part =
      let all = accepted shape from script pairs in
      let limit = from + lines in
      let low = λ (n : ℕ). nat_lt n limit in
      let test = λ (n : ℕ). part_of_line shape (line_at from script n) == part in
      let mine = numbers_of shape part from script order in
      let rest = (is.parts part).0 in
      let split : numbers_of shape part from script all ≡ mine ++ rest = (is.parts part).1 in
      let first : accepted shape from (take lines script) pairs ≡ below limit all = accepted_first shape from lines script pairs in
      let found : (n : ℕ) → Contains (mine ++ rest) n → low n ≡ true → Contains mine n = λ n there small.
      let of_part : Contains (numbers_of shape part from script all) n = subst (λ (ns : List ℕ). Contains ns n) (sym split) there in
      let taken : Contains (below limit all) n = contains_kept low all n (contains_unkept test all n of_part) small in
      let early : Contains (accepted shape from (take lines script) pairs) n = subst (λ (ns : List ℕ). Contains ns n) (sym first) taken in
      contains_kept test order n (All-contains (Contains order) (accepted shape from (take lines script) pairs) n has early) (kept_passes test all n of_part) in
      let none : below limit rest ≡ [] = none_after low mine rest (parts_rise shape from script pairs order part is) found in
      let same : below limit (numbers_of shape part from script all) ≡ below limit mine =
      ap (below limit) split ∙ filter-append low mine rest ∙ ap (λ r. below limit mine ++ r) none ∙ append-nil (below limit mine) in
      sym same ∙ kept_both low test all ∙ sym (ap (numbers_of shape part from script) first)

  -- a script's first lines, as their accepted ones leave the map
  first_map : (lines : ℕ) → after_numbers shape (accepted shape from (take lines script) pairs) from script pairs ≡ after_all shape (take lines script) pairs
  first_map lines =
      let here : from + 0 ≡ from = omega arith in
      ap (λ (s : List Line). after_numbers shape (accepted shape from (take lines script) pairs) from s pairs) (sym (take-append-drop lines script))
      ∙ ap (λ (n : ℕ). after_numbers shape (accepted shape n (take lines script) pairs) from (take lines script ++ drop lines script) pairs) (sym here)
      ∙ after_accepted shape from [] (take lines script) (drop lines script) pairs

  -- what the numbers below a line's leave is the map that the line meets in script order
  pub map_before : (lines : ℕ) → HasAccepted shape from script pairs lines order → after_numbers shape (below (from + lines) order) from script pairs ≡ after_all shape (take lines script) pairs
  map_before lines has = same_rows shape _ _ (λ part.
      let first = accepted shape from (take lines script) pairs in
      let rows = part_rows shape part pairs in
      let test = λ (n : ℕ). part_of_line shape (line_at from script n) == part in
      rows_after_numbers shape part (below (from + lines) order) from script pairs
      ∙ ap (λ (ns : List ℕ). after_numbers shape ns from script rows) (kept_both test (λ n. nat_lt n (from + lines)) order ∙ first_of_part lines has part)
      ∙ sym (rows_after_numbers shape part first from script pairs)
      ∙ ap (part_rows shape part) (first_map lines))

  -- and what those of its partition leave of the partition's rows are the rows that it meets
  pub rows_before : (lines part : ℕ) → HasAccepted shape from script pairs lines order → after_numbers shape (below (from + lines) (numbers_of shape part from script order)) from script (part_rows shape part pairs) ≡ part_rows shape part (after_all shape (take lines script) pairs)
  rows_before lines part has =
      ap (λ (ns : List ℕ). after_numbers shape ns from script (part_rows shape part pairs)) (first_of_part lines has part)
      ∙ sym (rows_after_numbers shape part (accepted shape from (take lines script) pairs) from script pairs)
      ∙ ap (part_rows shape part) (first_map lines)

  -- so the reply is the same
  pub reply_before : (lines : ℕ) (line : Line) → HasAccepted shape from script pairs lines order → is_barrier line ≡ false
      → reply_to shape line (after_numbers shape (below (from + lines) (numbers_of shape (part_of_line shape line) from script order)) from script (part_rows shape (part_of_line shape line) pairs)) ≡ reply_to shape line (after_all shape (take lines script) pairs)
  reply_before lines line has passable =
      ap (λ (m : Pairs). reply_to shape line m) (rows_before lines (part_of_line shape line) has) ∙ reply_by_rows shape line (after_all shape (take lines script) pairs) passable

  -- an order that has all accepted lines has all of each partition
  pub whole_part : HasAccepted shape from script pairs (length script) order → (part : ℕ) → numbers_of shape part from script (accepted shape from script pairs) ≡ numbers_of shape part from script order
  whole_part has part =
      let all = accepted shape from script pairs in
      let mine = numbers_of shape part from script order in
      let rest = (is.parts part).0 in
      let test = λ (n : ℕ). part_of_line shape (line_at from script n) == part in
      let split : numbers_of shape part from script all ≡ mine ++ rest = (is.parts part).1 in
      let whole : take (length script) script ≡ script = take_all (length script) script (omega arith) in
      let has_all : All (Contains order) all = subst (λ (s : List Line). All (Contains order) (accepted shape from s pairs)) whole has in
      let found : (n : ℕ) → Contains (mine ++ rest) n → Contains mine n = λ n there.
      let of_part : Contains (numbers_of shape part from script all) n = subst (λ (ns : List ℕ). Contains ns n) (sym split) there in
      contains_kept test order n (All-contains (Contains order) all n has_all (contains_unkept test all n of_part)) (kept_passes test all n of_part) in
      split ∙ all_in_front mine rest (parts_rise shape from script pairs order part is) found

  -- and leaves the map that the lines leave
  pub whole_map : HasAccepted shape from script pairs (length script) order → after_numbers shape order from script pairs ≡ after_all shape script pairs
  whole_map has = same_rows shape _ _ (λ part.
      let all = accepted shape from script pairs in
      let rows = part_rows shape part pairs in
      let whole : take (length script) script ≡ script = take_all (length script) script (omega arith) in
      rows_after_numbers shape part order from script pairs
      ∙ ap (λ (ns : List ℕ). after_numbers shape ns from script rows) (sym (whole_part has part))
      ∙ sym (rows_after_numbers shape part all from script pairs)
      ∙ ap (λ (s : List Line). part_rows shape part (after_numbers shape (accepted shape from s pairs) from script pairs)) (sym whole)
      ∙ ap (part_rows shape part) (first_map (length script) ∙ ap (λ (s : List Line). after_all shape s pairs) whole))

  -- of each partition, what a prefix of the numbers of the order leave is what a prefix of its accepted lines leave
  pub part_before : (count part : ℕ) → (first : List ℕ) × IsPrefix first (numbers_of shape part from script (accepted shape from script pairs)) × (part_rows shape part (after_numbers shape (take count order) from script pairs) ≡ part_rows shape part (after_numbers shape first from script pairs))
  part_before count part =
      let mine = numbers_of shape part from script (take count order) in
      let test = λ (n : ℕ). part_of_line shape (line_at from script n) == part in
      let twice : numbers_of shape part from script mine ≡ mine = kept_twice test (take count order) in (
        mine,
        (first_order shape from script pairs order count is).parts part,
        rows_after_numbers shape part (take count order) from script pairs
            ∙ sym (rows_after_numbers shape part mine from script pairs ∙ ap (λ (ns : List ℕ). after_numbers shape ns from script (part_rows shape part pairs)) twice),
      )

-- in script order, a prefix of the numbers that have each acknowledged one are as many
pub has_as_many : (shape : Shape) (from : ℕ) (script : List Line) (pairs : Pairs) (told tried count : ℕ)
    → All (Contains (take count (accepted shape from (take tried script) pairs))) (accepted shape from (take told script) pairs) → length (accepted shape from (take told script) pairs) ≤ count
has_as_many shape from script pairs told tried count has =
    let first = accepted shape from (take told script) pairs in
    let some = accepted shape from (take tried script) pairs in
    let told_split = split_accepted shape from script pairs told in
    let tried_split = split_accepted shape from script pairs tried in
    let rises : Rises (first ++ told_split.0) = subst (λ (ns : List ℕ). Rises ns) told_split.1 (accepted_rise shape from script pairs) in
    let wider : All (Contains (take count (some ++ tried_split.0))) first = All-weaker (Contains (take count some)) (Contains (take count (some ++ tried_split.0))) (λ n there. contains_more some tried_split.0 count n there) first has in
    longer_has first told_split.0 count rises (subst (λ (ns : List ℕ). All (Contains (take count ns)) first) (sym tried_split.1 ∙ told_split.1) wider)

-- and those that are as many have each
pub as_many_has : (shape : Shape) (from : ℕ) (script : List Line) (pairs : Pairs) (told tried count : ℕ) → count ≤ length (accepted shape from (take tried script) pairs)
    → length (accepted shape from (take told script) pairs) ≤ count → All (Contains (take count (accepted shape from (take tried script) pairs))) (accepted shape from (take told script) pairs)
as_many_has shape from script pairs told tried count fits long =
    let first = accepted shape from (take told script) pairs in
    let some = accepted shape from (take tried script) pairs in
    let told_split = split_accepted shape from script pairs told in
    let tried_split = split_accepted shape from script pairs tried in
    let same : take count (first ++ told_split.0) ≡ take count some = ap (take count) (sym told_split.1 ∙ tried_split.1) ∙ take-append-le count some tried_split.0 fits in
    subst (λ (ns : List ℕ). All (Contains ns) first) same (has_longer first told_split.0 count long)

-- an order that has each accepted one among some lines, and no other, leaves the map that these lines leave
pub tried_map : (shape : Shape) (from : ℕ) (script : List Line) (pairs : Pairs) (count : ℕ) (order : List ℕ) → HasTried shape from script pairs count 0 order → after_numbers shape order from script pairs ≡ after_all shape (take count script) pairs
tried_map shape from script pairs count order tried =
    let small : All (λ n. nat_lt n (from + count) ≡ true) order = All-weaker (λ n. n < from + count + 0) (λ n. nat_lt n (from + count) ≡ true) (λ n less. lt-ltb n (from + count) (omega (arith, less))) order tried.within in
    ap (λ (ns : List ℕ). after_numbers shape ns from script pairs) (sym (kept_all (λ n. nat_lt n (from + count)) order small))
    ∙ map_before shape from script pairs order tried.is_order count tried.has

-- script order has tried as many lines as it goes
pub script_tried : (shape : Shape) (from : ℕ) (script : List Line) (pairs : Pairs) (count more many : ℕ) → count ≤ many → many ≤ count + more → HasTried shape from script pairs count more (accepted shape from (take many script) pairs)
script_tried shape from script pairs count more many le few =
    let order = accepted shape from (take many script) pairs in
    let all = accepted shape from script pairs in
    let low = λ (n : ℕ). nat_lt n (from + many) in
    let split = split_accepted shape from (take many script) pairs count in
    let shorter : take count (take many script) ≡ take count script = take_first count many script le in
    let early = accepted shape from (take count script) pairs in
    let is : order ≡ early ++ split.0 = split.1 ∙ ap (λ (s : List Line). accepted shape from s pairs ++ split.0) shorter in
    record {
      is_order = script_order shape from script pairs many;
      has = subst (λ (ns : List ℕ). All (Contains ns) early) (sym is) (all_from_contains (Contains (early ++ split.0)) early (λ n there. Contains-append_left early split.0 n there));
      within = subst (λ (ns : List ℕ). All (λ n. n < from + count + more) ns) (sym (accepted_first shape from many script pairs))
          (All-weaker (λ n. low n ≡ true) (λ n. n < from + count + more) (λ n is_low. omega (arith, ltb-true n (from + many) is_low, few)) (below (from + many) all) (filter_passes low all));
    }

-- of a complete order, a prefix of the numbers have each accepted line that is long before one of them
pub first_has_old : (shape : Shape) (from : ℕ) (script : List Line) (pairs : Pairs) (order : List ℕ) (lines count later earlier : ℕ) → IsOrderOf shape from script pairs order → HasAccepted shape from script pairs lines order
    → Contains (take count order) later → Contains (accepted shape from (take lines script) pairs) earlier → earlier + BATCH_LINES_MAX ≤ later → Contains (take count order) earlier
first_has_old shape from script pairs order lines count later earlier is has there old far =
    let first = take count order in
    let following = drop count order in
    let R = λ (a b : ℕ). b < a → MayPass from script a b in
    let whole : first ++ following ≡ order = take-append-drop count order in
    let somewhere : Contains (first ++ following) earlier = subst (λ (ns : List ℕ). Contains ns earlier) (sym whole) (All-contains (Contains order) (accepted shape from (take lines script) pairs) earlier has old) in
    elim (Contains-append_cases first following earlier somewhere) [
      | inl near ↦ near
      | inr late ↦ absurd (
          let passes = paired_across R first following later earlier (subst (λ (ns : List ℕ). AllPairs R ns) (sym whole) is.passes) there late in
          let close = (passes (omega (arith, far))).near in
          omega (arith, far, close))
    ]
