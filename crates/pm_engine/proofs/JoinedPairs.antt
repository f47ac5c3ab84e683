-- The pairs of a cache in a store are those of its partitions, joined by rising key.
use Rattle.std.proofs.Common.{◌≡◌, ◌≢◌, ℕ, zero, suc, ◌+◌, ◌≤◌, ◌<◌, List, [], ◌∷◌, ◌++◌, Bool, cond, None, Some, Option, T, map, refl, sym, ap, subst, ◌∙◌, inl, inr, arith, IsPermutation}
use Rattle.std.specs.Prelude.{◌==◌, filter}
use Rattle.std.specs.Ordering.{nat_cmp, ordering_then, is_lt, is_eq, eq_by_cmp}
use Rattle.std.specs.declared.cmp.Ordering.TheVariants.{Equal}
use Rattle.std.specs.Cmp.{nat_cmp_total}
use Rattle.std.specs.Cmp.Lexicographic.{slice_cmp, nat_list_cmp_total}
use Rattle.std.specs.List.{flat_map, range_with_len}
use Rattle.std.specs.FinMap.{get, entries, entries_sorted, get-entries}
use Rattle.std.specs.FinMap.Entries.{find, is_sorted, below_all, same_entries}
use Rattle.std.proofs.lemmas.Bool.{cases_Bool, cases_eq, eq-eqb, ne_eqb}
use Rattle.std.proofs.lemmas.Cmp.{tied_itself}
use Rattle.std.proofs.lemmas.List.Sorted.{All-permutation, IsPermutation-sym, sum_by-IsPermutation}
use Rattle.std.proofs.lemmas.List.Sums.{sum_by-append}
use Rattle.std.proofs.lemmas.Map.Lookups.{exact_bytes}
use Rattle.pm_records.proofs.Runs.{option_cases}
use Rattle.pm_types.specs.declared.shape.Shape.{Shape}
use Rattle.pm_model.specs.declared.cache_key.CacheKey.{CacheKey}
use Rattle.pm_model.specs.Partitions.{part_of}
use Rattle.pm_model.specs.Eval.{Pairs, cache_key, cache_key_cmp, pairs_among, pairs_of}
use Rattle.pm_model.proofs.CacheKeys.{exact_cache_keys}
use Rattle.pm_part.proofs.KeyedRows.{equal}
use Rattle.pm_pages.proofs.Quantified.{Each, each_of, all_of, each_map, each_join, each_left}
use Rattle.pm_core.specs.BasePages.{Partitions}
use Rattle.pm_core.specs.Held.{AllWellFormed, pairs_in}
use Rattle.pm_engine.specs.Merges.{HasRisingKeys}
use Rattle.pm_engine.specs.PagedStores.{part_map}
use Rattle.pm_engine.proofs.RisingPairs.{PairsList, found, Rises, both, first, second, finds_each, found_by, not_found, none_found, times_of, one_of, times_none, times_rising, rises_once}
use Rattle.pm_engine.proofs.StoreMaps.{value_by_part, absent_by_part, part_below}

-- ---- the pairs of a cache among entries

abbrev pair_of : CacheKey × List ℕ → List ℕ × List ℕ
pair_of entry = (entry.0.key, entry.1)

abbrev is_of : ℕ → CacheKey × List ℕ → Bool
is_of cache entry = entry.0.cache == cache

same_cache : (cache other : ℕ) → other ≡ cache → nat_cmp cache other ≡ Equal
same_cache cache other same = ap (λ c. nat_cmp cache c) same ∙ tied_itself nat_cmp_total cache

-- they have at a key what the entries have at the key of the cache
found_among : (cache : ℕ) (key : List ℕ) (es : List (CacheKey × List ℕ)) → found key (pairs_among cache es) ≡ find cache_key_cmp (cache_key cache key) es
found_among cache key [] = refl
found_among cache key (e ∷ es) =
    let rest = filter (is_of cache) es in
    elim (cases_eq e.0.cache cache) [
      | inl of ↦
          let same : eq_by_cmp (slice_cmp nat_cmp) key e.0.key ≡ eq_by_cmp cache_key_cmp (cache_key cache key) e.0 =
          ap (λ o. is_eq (ordering_then o (slice_cmp nat_cmp key e.0.key))) (sym (same_cache cache e.0.cache of)) in
          ap (λ b. found key (map pair_of (cond b (e ∷ rest) rest))) (eq-eqb e.0.cache cache of)
          ∙ (λ i. cond (same i) (Some e.1) (found_among cache key es i))
      | inr other ↦
          ap (λ b. found key (map pair_of (cond b (e ∷ rest) rest))) (ne_eqb e.0.cache cache other) ∙ found_among cache key es
          ∙ elim (cases_Bool (eq_by_cmp cache_key_cmp (cache_key cache key) e.0)) [
            | inl hit ↦ absurd (other (sym (ap (λ (k : CacheKey). k.cache) (exact_cache_keys (cache_key cache key) e.0 (equal _ hit)))))
            | inr miss ↦ sym (ap (λ b. cond b (Some e.1) (find cache_key_cmp (cache_key cache key) es)) miss)
          ]
    ]

below_among : (cache : ℕ) (key : List ℕ) (es : List (CacheKey × List ℕ)) → T (below_all cache_key_cmp (cache_key cache key) es) → T (below_all (slice_cmp nat_cmp) key (pairs_among cache es))
below_among cache key [] below = tt
below_among cache key (e ∷ es) below =
    let rest = filter (is_of cache) es in
    let P : Bool → Type 0 = λ b. T (below_all (slice_cmp nat_cmp) key (map pair_of (cond b (e ∷ rest) rest))) in
    elim (cases_eq e.0.cache cache) [
      | inl of ↦
          let lt : T (is_lt (slice_cmp nat_cmp key e.0.key)) = subst (λ o. T (is_lt (ordering_then o (slice_cmp nat_cmp key e.0.key)))) (same_cache cache e.0.cache of) (first _ _ below) in
          subst P (sym (eq-eqb e.0.cache cache of)) (both _ _ lt (below_among cache key es (second _ _ below)))
      | inr other ↦ subst P (sym (ne_eqb e.0.cache cache other)) (below_among cache key es (second _ _ below))
    ]

rises_among : (cache : ℕ) (es : List (CacheKey × List ℕ)) → T (is_sorted cache_key_cmp es) → Rises (pairs_among cache es)
rises_among cache [] sorted = tt
rises_among cache (e ∷ es) sorted =
    let rest = filter (is_of cache) es in
    let P : Bool → Type 0 = λ b. Rises (map pair_of (cond b (e ∷ rest) rest)) in
    elim (cases_eq e.0.cache cache) [
      | inl of ↦
          let key_is : e.0 ≡ cache_key cache e.0.key = λ i. cache_key (of i) e.0.key in
          let below = subst (λ (k : CacheKey). T (below_all cache_key_cmp k es)) key_is (first _ _ sorted) in
          subst P (sym (eq-eqb e.0.cache cache of)) (both _ _ (below_among cache e.0.key es below) (rises_among cache es (second _ _ sorted)))
      | inr other ↦ subst P (sym (ne_eqb e.0.cache cache other)) (rises_among cache es (second _ _ sorted))
    ]

pub rises_of : (cache : ℕ) (pairs : Pairs) → Rises (pairs_of cache pairs)
rises_of cache pairs = rises_among cache (entries pairs) (entries_sorted pairs)

pub found_of : (cache : ℕ) (key : List ℕ) (pairs : Pairs) → found key (pairs_of cache pairs) ≡ get pairs (cache_key cache key)
found_of cache key pairs = found_among cache key (entries pairs) ∙ sym (get-entries pairs (cache_key cache key))

-- ---- lists one after another

each_right : {A : Type 0} (P : A → Type 0) (xs ys : List A) → Each P (xs ++ ys) → Each P ys
each_right P [] ys each = each
each_right P (x ∷ xs) ys each = each_right P xs ys each.1

module _ (f : ℕ → PairsList) where
  each_joined : (P : List ℕ × List ℕ → Type 0) (from count : ℕ) → ((part : ℕ) → from ≤ part → part < from + count → Each P (f part)) → Each P (flat_map f (range_with_len from count))
  each_joined P from zero each = tt
  each_joined P from (suc count) each =
      each_join P (f from) (flat_map f (range_with_len (from + 1) count)) (each from (omega arith) (omega arith))
      (each_joined P (from + 1) count (λ part ge lt. each part (omega (arith, ge)) (omega (arith, lt))))

  each_in : (P : List ℕ × List ℕ → Type 0) (from count part : ℕ) → from ≤ part → part < from + count → Each P (flat_map f (range_with_len from count)) → Each P (f part)
  each_in P from zero part ge lt each = absurd (omega (arith, ge, lt))
  each_in P from (suc count) part ge lt each =
      let rest = flat_map f (range_with_len (from + 1) count) in
      elim (cases_eq from part) [
        | inl same ↦ subst (λ p. Each P (f p)) same (each_left P (f from) rest each)
        | inr other ↦ each_in P (from + 1) count part (omega (arith, ge, other)) (omega (arith, lt)) (each_right P (f from) rest each)
      ]

  module _ (key : List ℕ) (p limit : ℕ) (others : (part : ℕ) → part < limit → part ≢ p → times_of key (f part) ≡ 0) where
    times_past : (from count : ℕ) → p < from → from + count ≤ limit → times_of key (flat_map f (range_with_len from count)) ≡ 0
    times_past from zero past within = refl
    times_past from (suc count) past within =
        omega (arith, sum_by-append (one_of key) (f from) (flat_map f (range_with_len (from + 1) count)), others from (omega (arith, within)) (λ e. absurd (omega (arith, e, past))), times_past (from + 1) count (omega (arith, past)) (omega (arith, within)))

    -- a key stands as often in all lists as in the one that may have it
    times_joined : (from count : ℕ) → from + count ≤ limit → times_of key (flat_map f (range_with_len from count)) ≤ times_of key (f p)
    times_joined from zero within = omega arith
    times_joined from (suc count) within =
        let all = sum_by-append (one_of key) (f from) (flat_map f (range_with_len (from + 1) count)) in
        elim (cases_eq from p) [
          | inl same ↦ omega (arith, all, ap (λ q. times_of key (f q)) same, times_past (from + 1) count (omega (arith, same)) (omega (arith, within)))
          | inr other ↦ omega (arith, all, others from (omega (arith, within)) other, times_joined (from + 1) count (omega (arith, within)))
        ]

-- ---- the store

module _ (shape : Shape) (pages : Partitions) (some : 1 ≤ shape.partitions) (well : AllWellFormed shape pages) (cache : ℕ) where
  abbrev part_pairs : ℕ → PairsList
  part_pairs part = pairs_of cache (part_map pages part)

  abbrev value_of : List ℕ → Option (List ℕ)
  value_of key = get (pairs_in shape.partitions pages) (cache_key cache key)

  own_part : (key : List ℕ) → found key (part_pairs (part_of key shape.partitions)) ≡ value_of key
  own_part key = found_of cache key (part_map pages (part_of key shape.partitions)) ∙ sym (value_by_part shape pages well (cache_key cache key) some)

  other_part : (key : List ℕ) (part : ℕ) → part < shape.partitions → part ≢ part_of key shape.partitions → found key (part_pairs part) ≡ None
  other_part key part below other = found_of cache key (part_map pages part) ∙ absent_by_part shape pages well part (cache_key cache key) below (λ e. other (sym e))

  -- what a partition finds the store's map has
  in_part : (part : ℕ) → part < shape.partitions → Each (λ (x : List ℕ × List ℕ). value_of x.0 ≡ Some x.1) (part_pairs part)
  in_part part below = each_map (λ (x : List ℕ × List ℕ). found x.0 (part_pairs part) ≡ Some x.1) (λ (x : List ℕ × List ℕ). value_of x.0 ≡ Some x.1) (part_pairs part) step (finds_each (part_pairs part) (rises_of cache (part_map pages part)))
    where
      step : (x : List ℕ × List ℕ) → found x.0 (part_pairs part) ≡ Some x.1 → value_of x.0 ≡ Some x.1
      step x is = elim (cases_eq part (part_of x.0 shape.partitions)) [
        | inl own ↦ sym (own_part x.0) ∙ ap (λ q. found x.0 (part_pairs q)) (sym own) ∙ is
        | inr other ↦ absurd (cc (sym (other_part x.0 part below other) ∙ is))
      ]

  module _ (pairs : PairsList) (all : IsPermutation (flat_map part_pairs (range_with_len 0 shape.partitions)) pairs) where
    abbrev joined : PairsList
    joined = flat_map part_pairs (range_with_len 0 shape.partitions)

    in_pairs : (P : List ℕ × List ℕ → Type 0) → Each P joined → Each P pairs
    in_pairs P each = each_of P pairs (All-permutation P joined pairs all (all_of P joined each))

    in_joined : (P : List ℕ × List ℕ → Type 0) → Each P pairs → Each P joined
    in_joined P each = each_of P joined (All-permutation P pairs joined (IsPermutation-sym joined pairs all) (all_of P pairs each))

    finds : (key : List ℕ) → found key pairs ≡ value_of key
    finds key =
        let p = part_of key shape.partitions in
        let below : p < shape.partitions = part_below shape key some in
        elim (option_cases (found key pairs)) [
          | inl none ↦
              let P : List ℕ × List ℕ → Type 0 = λ (x : List ℕ × List ℕ). x.0 ≢ key in
              none ∙ sym (none_found key (part_pairs p) (each_in part_pairs P 0 shape.partitions p (omega arith) (omega (arith, below)) (in_joined P (not_found key pairs none)))) ∙ own_part key
          | inr there ↦
              let P : List ℕ × List ℕ → Type 0 = λ (x : List ℕ × List ℕ). value_of x.0 ≡ Some x.1 in
              there.1 ∙ sym (found_by (λ k v. value_of k ≡ Some v) key there.0 pairs (in_pairs P (each_joined part_pairs P 0 shape.partitions (λ part ge lt. in_part part (omega (arith, lt))))) there.1)
        ]

    once : (key : List ℕ) → times_of key pairs ≤ 1
    once key =
        let p = part_of key shape.partitions in
        let most = times_joined part_pairs key p shape.partitions (λ part below other. times_none key (part_pairs part) (not_found key (part_pairs part) (other_part key part below other))) 0 shape.partitions (omega arith) in
        omega (arith, sum_by-IsPermutation (one_of key) joined pairs all, most, times_rising key (part_pairs p) (rises_of cache (part_map pages p)))

    pub pairs_by_part : HasRisingKeys pairs → pairs ≡ pairs_of cache (pairs_in shape.partitions pages)
    pairs_by_part rising = same_entries (slice_cmp nat_cmp) nat_list_cmp_total exact_bytes pairs (pairs_of cache (pairs_in shape.partitions pages))
        (rises_once pairs rising once) (rises_of cache (pairs_in shape.partitions pages))
        (λ key. finds key ∙ sym (found_of cache key (pairs_in shape.partitions pages)))
