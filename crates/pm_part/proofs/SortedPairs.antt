-- The pairs of a cache's rows, in the order of the items that list the rows, are those of the map that the rows make.
use Rattle.std.proofs.Common.{◌≡◌, ◌≢◌, ℕ, ◌==◌, List, [], ◌∷◌, Bool, true, false, cond, None, Some, T, map, refl, sym, ap, subst, ◌∙◌, inl, inr, ◌&&◌}
use Rattle.std.specs.Prelude.{Any, AllPairs}
use Rattle.std.specs.Ordering.{nat_cmp, ordering_then, is_lt, eq_by_cmp, is_eq}
use Rattle.std.specs.declared.cmp.Ordering.{Ordering}
use Rattle.std.specs.declared.cmp.Ordering.TheVariants.{Less, Equal, Greater}
use Rattle.std.specs.Cmp.Lexicographic.{slice_cmp}
use Rattle.std.specs.Cmp.{nat_cmp_total}
use Rattle.std.specs.FinMap as finmap
use Rattle.std.specs.FinMap.{entries_sorted, get-entries}
use Rattle.std.specs.FinMap.Entries.{find, is_sorted, below_all, where_key, is_sorted-where_key, find-where_key, same_entries}
use Rattle.std.proofs.lemmas.Bool.{cases_eq, cases_Bool, eq-eqb, ne_eqb}
use Rattle.std.proofs.lemmas.Cmp.{tied_itself, eq_by_cmp_equiv}
use Rattle.pm_btpage.specs.IndexPages.{Item, IsBelow}
use Rattle.pm_model.specs.declared.cache_key.CacheKey.{CacheKey}
use Rattle.pm_model.specs.Eval.{cache_key, cache_key_cmp, pairs_of}
use Rattle.pm_model.proofs.CacheKeys.{exact_cache_keys, cache_keys_total}
use Rattle.pm_pages.specs.declared.row.Row.{Row}
use Rattle.pm_pages.specs.RowMaps.{map_of}
use Rattle.pm_pages.specs.Trees.{IsItemOf, ListsRows}
use Rattle.pm_pages.specs.WellFormed.{AreDifferent}
use Rattle.pm_tree.specs.Nodes.{Keys}
use Rattle.pm_tree_del.proofs.RemovedItems.{Rises, rises_from}
use Rattle.pm_part.specs.PairReads.{PairsList}
use Rattle.pm_part.proofs.KeyedRows.{HasKey, HasValue, get_there, get_absent}
use Rattle.pm_pages.proofs.Quantified.{Holds, Each, each_of, holds_of}

-- the pair of an item: its key, with the value of the key's row
pub record IsPairOf (rows : List Row) (cache : ℕ) (item : Item) (pair : List ℕ × List ℕ) : Type 0 where
  pub key_is : pair.0 ≡ item.key
  pub row : Holds (HasValue cache pair.0 pair.1) rows

-- the pairs of these items, in their order
abbrev pub ArePairsOf : List Row → ℕ → List Item → PairsList → Type 0
ArePairsOf rows cache [] [] = Unit {0}
ArePairsOf rows cache [] (pair ∷ pairs) = ⊥
ArePairsOf rows cache (item ∷ items) [] = ⊥
ArePairsOf rows cache (item ∷ items) (pair ∷ pairs) = IsPairOf rows cache item pair × ArePairsOf rows cache items pairs

-- pairs as entries of the map
abbrev entries_by : ℕ → PairsList → List (CacheKey × List ℕ)
entries_by cache [] = []
entries_by cache (pair ∷ pairs) = (cache_key cache pair.0, pair.1) ∷ entries_by cache pairs

pairs_back : (cache : ℕ) (pairs : PairsList) → map (λ (entry : CacheKey × List ℕ). (entry.0.key, entry.1)) (entries_by cache pairs) ≡ pairs
pairs_back cache [] = refl
pairs_back cache (pair ∷ pairs) = ap (λ (l : PairsList). (pair.0, pair.1) ∷ l) (pairs_back cache pairs)

-- they are sorted

both : (a b : Bool) → T a → T b → T (a && b)
both true b p q = q
both false b p q = p

key_less : (cache : ℕ) (a b : List ℕ) → IsBelow a b → T (is_lt (cache_key_cmp (cache_key cache a) (cache_key cache b)))
key_less cache a b below =
    let order : cache_key_cmp (cache_key cache a) (cache_key cache b) ≡ Less = ap (λ o. ordering_then o (slice_cmp nat_cmp a b)) (tied_itself nat_cmp_total cache) ∙ below in
    subst (λ o. T (is_lt o)) (sym order) tt

below_each : (rows : List Row) (cache : ℕ) (key : List ℕ) (items : List Item) (pairs : PairsList) → Keys (λ k. IsBelow key k) items → ArePairsOf rows cache items pairs → T (below_all cache_key_cmp (cache_key cache key) (entries_by cache pairs))
below_each rows cache key [] [] keys are = tt
below_each rows cache key [] (pair ∷ pairs) keys are = absurd are
below_each rows cache key (item ∷ items) [] keys are = absurd are
below_each rows cache key (item ∷ items) (pair ∷ pairs) keys are =
    both _ _ (key_less cache key pair.0 (subst (IsBelow key) (sym are.0.key_is) keys.0)) (below_each rows cache key items pairs keys.1 are.1)

sorted : (rows : List Row) (cache : ℕ) (items : List Item) (pairs : PairsList) → Rises items → ArePairsOf rows cache items pairs → T (is_sorted cache_key_cmp (entries_by cache pairs))
sorted rows cache [] [] rises are = tt
sorted rows cache [] (pair ∷ pairs) rises are = absurd are
sorted rows cache (item ∷ items) [] rises are = absurd are
sorted rows cache (item ∷ items) (pair ∷ pairs) rises are =
    both _ _ (below_each rows cache pair.0 items pairs (subst (λ k. Keys (λ other. IsBelow k other) items) (sym are.0.key_is) rises.0) are.1) (sorted rows cache items pairs rises.1 are.1)

-- what they have at a key

abbrev at_key : List ℕ → List ℕ × List ℕ → Type 0
at_key key pair = pair.0 ≡ key

hit : (o : Ordering) → is_eq o ≡ true → o ≡ Equal
hit Less e = absurd (cc e)
hit Equal e = refl
hit Greater e = absurd (cc e)

data Finding (cache : ℕ) (key : List ℕ) (pairs : PairsList) : Type 0 where
  There : (value : List ℕ) → find cache_key_cmp (cache_key cache key) (entries_by cache pairs) ≡ Some value → Holds (λ (pair : List ℕ × List ℕ). (pair.0 ≡ key) × (pair.1 ≡ value)) pairs → Finding cache key pairs
  Absent : find cache_key_cmp (cache_key cache key) (entries_by cache pairs) ≡ None → Each (λ (pair : List ℕ × List ℕ). pair.0 ≢ key) pairs → Finding cache key pairs

finds : (cache : ℕ) (key : List ℕ) (pairs : PairsList) → Finding cache key pairs
finds cache key [] = Absent refl tt
finds cache key (pair ∷ pairs) =
    let at = cache_key cache key in
    let rest = find cache_key_cmp at (entries_by cache pairs) in
    elim (cases_Bool (eq_by_cmp cache_key_cmp at (cache_key cache pair.0))) [
      | inl same ↦
          let keys : at ≡ cache_key cache pair.0 = exact_cache_keys at (cache_key cache pair.0) (hit _ same) in
          There pair.1 (ap (λ b. cond b (Some pair.1) rest) same) (inl (sym (ap (λ (k : CacheKey). k.key) keys), refl))
      | inr other ↦ further other (finds cache key pairs)
    ]
  where
    further : eq_by_cmp cache_key_cmp (cache_key cache key) (cache_key cache pair.0) ≡ false → Finding cache key pairs → Finding cache key (pair ∷ pairs)
    further other (There value is any) = There value (ap (λ b. cond b (Some pair.1) (find cache_key_cmp (cache_key cache key) (entries_by cache pairs))) other ∙ is) (inr any)
    further other (Absent is none) = Absent (ap (λ b. cond b (Some pair.1) (find cache_key_cmp (cache_key cache key) (entries_by cache pairs))) other ∙ is)
        ((λ same. absurd (cc (sym other ∙ ap (λ k. eq_by_cmp cache_key_cmp (cache_key cache key) (cache_key cache k)) same ∙ (eq_by_cmp_equiv cache_keys_total).refl (cache_key cache key)))), none)

row_of_pair : (rows : List Row) (cache : ℕ) (key value : List ℕ) (items : List Item) (pairs : PairsList) → ArePairsOf rows cache items pairs → Holds (λ (pair : List ℕ × List ℕ). (pair.0 ≡ key) × (pair.1 ≡ value)) pairs → Holds (HasValue cache key value) rows
row_of_pair rows cache key value [] [] are any = absurd any
row_of_pair rows cache key value [] (pair ∷ pairs) are any = absurd are
row_of_pair rows cache key value (item ∷ items) [] are any = absurd are
row_of_pair rows cache key value (item ∷ items) (pair ∷ pairs) are any = elim any [
  | inl here ↦ subst (λ (q : List ℕ × List ℕ). Holds (HasValue cache q.0 q.1) rows) {x = (pair.0, pair.1)} {y = (key, value)} (λ i. (here.0 i, here.1 i)) are.0.row
  | inr later ↦ row_of_pair rows cache key value items pairs are.1 later
]

no_item_of : (rows : List Row) (cache : ℕ) (key : List ℕ) (row : Row) (items : List Item) (pairs : PairsList) → ArePairsOf rows cache items pairs → Each (λ (pair : List ℕ × List ℕ). pair.0 ≢ key) pairs → row.key ≡ key → Holds (λ (item : Item). IsItemOf cache item row) items → ⊥
no_item_of rows cache key row [] [] are none same any = absurd any
no_item_of rows cache key row [] (pair ∷ pairs) are none same any = absurd are
no_item_of rows cache key row (item ∷ items) [] are none same any = absurd are
no_item_of rows cache key row (item ∷ items) (pair ∷ pairs) are none same any = elim any [
  | inl here ↦ none.0 (are.0.key_is ∙ here.key ∙ same)
  | inr later ↦ no_item_of rows cache key row items pairs are.1 none.1 same later
]

no_rows_of : (all rows : List Row) (cache : ℕ) (key : List ℕ) (items : List Item) (pairs : PairsList) → ArePairsOf all cache items pairs → Each (λ (pair : List ℕ × List ℕ). pair.0 ≢ key) pairs → Each (λ (row : Row). row.cache ≡ cache → Any (λ (item : Item). IsItemOf cache item row) items) rows → Each (λ row. HasKey cache key row → ⊥) rows
no_rows_of all [] cache key items pairs are none listed = tt
no_rows_of all (row ∷ rows) cache key items pairs are none listed = (
  λ has. no_item_of all cache key row items pairs are none has.key_is (holds_of _ items (listed.0 has.cache_is)),
  no_rows_of all rows cache key items pairs are none listed.1,
)

-- a key of the cache has what the rows' map has
same_values : (rows : List Row) (cache : ℕ) (items : List Item) (pairs : PairsList) → AllPairs AreDifferent rows → ListsRows rows cache items → ArePairsOf rows cache items pairs → (key : List ℕ) → finmap.get (map_of rows) (cache_key cache key) ≡ find cache_key_cmp (cache_key cache key) (entries_by cache pairs)
same_values rows cache items pairs once lists are key = step (finds cache key pairs)
  where
    step : Finding cache key pairs → finmap.get (map_of rows) (cache_key cache key) ≡ find cache_key_cmp (cache_key cache key) (entries_by cache pairs)
    step (There value is any) = get_there rows cache key value once (row_of_pair rows cache key value items pairs are any) ∙ sym is
    step (Absent is none) = get_absent rows cache key (no_rows_of rows rows cache key items pairs are none (each_of _ rows lists.all)) ∙ sym is

-- a key of another cache has nothing
no_other : (cache : ℕ) (at : CacheKey) (pairs : PairsList) → at.cache ≢ cache → find cache_key_cmp at (entries_by cache pairs) ≡ None
no_other cache at [] other = refl
no_other cache at (pair ∷ pairs) other = elim (cases_Bool (eq_by_cmp cache_key_cmp at (cache_key cache pair.0))) [
  | inl same ↦ absurd (other (ap (λ (k : CacheKey). k.cache) (exact_cache_keys at (cache_key cache pair.0) (hit _ same))))
  | inr miss ↦ ap (λ b. cond b (Some pair.1) (find cache_key_cmp at (entries_by cache pairs))) miss ∙ no_other cache at pairs other
]

-- the pairs of all items are those of the map
pub pairs_are : (rows : List Row) (cache : ℕ) (items : List Item) (pairs : PairsList) → AllPairs AreDifferent rows → ListsRows rows cache items → ArePairsOf rows cache items pairs → pairs ≡ pairs_of cache (map_of rows)
pairs_are rows cache items pairs once lists are =
    let m = map_of rows in
    let test : CacheKey → Bool = λ (k : CacheKey). k.cache == cache in
    let mine = where_key cache_key_cmp test (finmap.entries m) in
    let alike : (q x : CacheKey) → cache_key_cmp q x ≡ Equal → test x ≡ test q = λ q x tied. ap test (sym (exact_cache_keys q x tied)) in
    let each : (q : CacheKey) → find cache_key_cmp q mine ≡ find cache_key_cmp q (entries_by cache pairs) = λ q.
    find-where_key cache_key_cmp test q (alike q) (finmap.entries m) ∙ elim (cases_eq q.cache cache) [
      | inl of ↦
          let at : cache_key cache q.key ≡ q = λ i. cache_key (sym of i) q.key in
          ap (λ b. cond b (find cache_key_cmp q (finmap.entries m)) None) (eq-eqb q.cache cache of) ∙ sym (get-entries m q)
          ∙ subst (λ k. finmap.get m k ≡ find cache_key_cmp k (entries_by cache pairs)) at (same_values rows cache items pairs once lists are q.key)
      | inr other ↦ ap (λ b. cond b (find cache_key_cmp q (finmap.entries m)) None) (ne_eqb q.cache cache other) ∙ sym (no_other cache q pairs other)
    ] in
    let same : mine ≡ entries_by cache pairs = same_entries cache_key_cmp cache_keys_total exact_cache_keys mine (entries_by cache pairs)
    (is_sorted-where_key cache_key_cmp test (finmap.entries m) (entries_sorted m)) (sorted rows cache items pairs (rises_from items lists.rising) are) each in
    sym (ap (map (λ (entry : CacheKey × List ℕ). (entry.0.key, entry.1))) same ∙ pairs_back cache pairs)
