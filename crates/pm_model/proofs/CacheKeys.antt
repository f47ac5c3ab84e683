-- Maps by cache and key: what entries say of the map that they make.
use Rattle.std.proofs.Common.{◌≡◌, ℕ, ◌≤◌, List, [], ◌∷◌, length, cond, Bool, true, false, not, Some, None, Option, refl, ap, sym, ◌∙◌, subst, is_eq, ◌&&◌, ◌<◌, arith}
use Rattle.std.specs.Option.{is_some}
use Rattle.std.specs.Ordering.{nat_cmp}
use Rattle.std.specs.List.{count_by}
use Rattle.std.specs.declared.cmp.Ordering.{Ordering}
use Rattle.std.specs.declared.cmp.Ordering.TheVariants.{Less, Equal, Greater}
use Rattle.std.specs.Cmp.Lexicographic.{slice_cmp, nat_list_cmp_total}
use Rattle.std.specs.Cmp.{IsTotalOrder, nat_cmp_total, eq_by_cmp_equiv}
use Rattle.std.specs.List.Sorted.{IsStrictlySortedBy}
use Rattle.std.specs.Map.{lookup, keys_of}
use Rattle.std.specs.BTreeMap.{is_at}
use Rattle.std.specs.FinMap.{find, put, get, insert, remove, empty, entries, from_entries, get-from_entries, get-insert, get-remove, entries-insert, len-empty, len-entries, same_map}
use Rattle.std.specs.FinMap.Entries.{by_order}
use Rattle.std.proofs.lemmas.Bool.{lt-leb}
use Rattle.std.proofs.lemmas.List.Sums.{count_by-le-length}
use Rattle.std.proofs.lemmas.Map.Entries.{length-keys_of}
use Rattle.std.proofs.lemmas.Map.Lookups.{CmpEqualImpliesEq, exact_pairs, exact_unsigned, exact_bytes}
use Rattle.std.proofs.lemmas.Cmp.{on_total, then_total}
use Rattle.pm_model.specs.declared.cache_key.CacheKey.{CacheKey}
use Rattle.pm_types.specs.declared.shape.Shape.{Shape}
use Rattle.pm_model.specs.Partitions.{part_of}
use Rattle.pm_model.specs.Eval.{cache_key_cmp, cache_key, Pairs, is_of_part, rows_of, is_full}

-- keys that compare alike are one
pub exact_cache_keys : CmpEqualImpliesEq cache_key_cmp
exact_cache_keys a b alike =
    ap (λ (pair : ℕ × List ℕ). cache_key pair.0 pair.1) (exact_pairs nat_cmp (slice_cmp nat_cmp) exact_unsigned exact_bytes (a.cache, a.key) (b.cache, b.key) alike)

-- they are in a total order
pub cache_keys_total : IsTotalOrder cache_key_cmp
cache_keys_total = then_total (on_total (λ at. at.cache) nat_cmp_total) (on_total (λ at. at.key) nat_list_cmp_total)

-- what entries have at a key
abbrev pub value_at : List (CacheKey × List ℕ) → CacheKey → Option (List ℕ)
value_at entries at = lookup (is_at (cache_key_cmp at)) entries

-- a look-up in the list finds what a search from its front does
find_value : (entries : List (CacheKey × List ℕ)) (at : CacheKey) → find cache_key_cmp at entries ≡ value_at entries at
find_value [] at = refl
find_value (entry ∷ entries) at = ap (cond (is_at (cache_key_cmp at) entry.0) (Some entry.1)) (find_value entries at)

-- what the map that the entries make has at a key
pub get_value : (entries : List (CacheKey × List ℕ)) (at : CacheKey) → get (from_entries {R = cache_key_cmp} entries) at ≡ value_at entries at
get_value entries at = get-from_entries cache_keys_total entries at ∙ find_value entries at

-- entries that differ at one key make maps that differ there
pub one_put : (old new : List (CacheKey × List ℕ)) (at : CacheKey) (value : List ℕ) → ((each : CacheKey) → value_at new each ≡ cond (is_at (cache_key_cmp at) each) (Some value) (value_at old each)) → from_entries {R = cache_key_cmp} new ≡ insert (from_entries old) at value
one_put old new at value differs = same_map cache_keys_total exact_cache_keys _ _ (λ each.
    get_value new each ∙ differs each ∙ ap (λ t. cond t (Some value) (value_at old each)) ((eq_by_cmp_equiv cache_keys_total).symm at each)
    ∙ sym (get-insert cache_keys_total (from_entries old) at value each ∙ ap (cond (is_at (cache_key_cmp each) at) (Some value)) (get_value old each)))

-- entries without one key make the map without it
pub one_removed : (old new : List (CacheKey × List ℕ)) (at : CacheKey) → ((each : CacheKey) → value_at new each ≡ cond (is_at (cache_key_cmp at) each) None (value_at old each)) → from_entries {R = cache_key_cmp} new ≡ remove (from_entries old) at
one_removed old new at differs = same_map cache_keys_total exact_cache_keys _ _ (λ each.
    get_value new each ∙ differs each ∙ ap (λ t. cond t None (value_at old each)) ((eq_by_cmp_equiv cache_keys_total).symm at each)
    ∙ sym (get-remove cache_keys_total (from_entries old) at each ∙ ap (cond (is_at (cache_key_cmp each) at) None) (get_value old each)))

-- to take out a key that isn't there changes nothing
pub remove-absent : (pairs : Pairs) (at : CacheKey) → is_some (get pairs at) ≡ false → remove pairs at ≡ pairs
remove-absent pairs at absent = same_map cache_keys_total exact_cache_keys _ _ (λ each.
    get-remove cache_keys_total pairs at each ∙ left (cache_key_cmp each at) (get pairs each) (λ tied. subst (λ k. is_some (get pairs k) ≡ false) (sym (exact_cache_keys each at tied)) absent))
  where
    none : (found : Option (List ℕ)) → is_some found ≡ false → None ≡ found
    none None h = refl
    none (Some value) h = absurd cc

    left : (order : Ordering) (found : Option (List ℕ)) → (order ≡ Equal → is_some found ≡ false) → cond (is_eq order) None found ≡ found
    left Equal found absent = none found (absent refl)
    left Less found absent = refl
    left Greater found absent = refl

-- no entry makes the map without entries
entries-empty : entries (empty {X = List ℕ} {R = cache_key_cmp}) ≡ []
entries-empty = none (entries empty) (sym (len-entries empty) ∙ len-empty cache_key_cmp (List ℕ))
  where
    none : (es : List (CacheKey × List ℕ)) → length es ≡ 0 → es ≡ []
    none [] h = refl
    none (e ∷ es) h = absurd (omega arith)

-- entries whose keys rise are the entries of the map that they make
pub entries_are : (es : List (CacheKey × List ℕ)) → IsStrictlySortedBy cache_key_cmp (keys_of es) → entries (from_entries {R = cache_key_cmp} es) ≡ es
unfolding IsStrictlySortedBy
entries_are [] sorted = entries-empty
entries_are (e ∷ []) sorted = entries-insert cache_keys_total empty e.0 e.1 ∙ ap (put cache_key_cmp e.0 e.1) entries-empty
entries_are (e ∷ f ∷ es) sorted =
    entries-insert cache_keys_total (from_entries (f ∷ es)) e.0 e.1 ∙ ap (put cache_key_cmp e.0 e.1) (entries_are (f ∷ es) sorted.1)
    ∙ ap (λ o. by_order o (e ∷ f ∷ es) ((f.0, e.1) ∷ es) (f ∷ put cache_key_cmp e.0 e.1 es)) sorted.0.0

-- a partition has no more rows than the map
pub few_rows : (es : List (CacheKey × List ℕ)) (partitions part : ℕ) → IsStrictlySortedBy cache_key_cmp (keys_of es) → rows_of partitions part (from_entries es) ≤ length es
few_rows es partitions part sorted =
    let some : count_by (is_of_part partitions part) (keys_of es) ≤ length es = omega (arith, count_by-le-length (is_of_part partitions part) (keys_of es), length-keys_of es) in
    rw (entries_are es sorted) some

-- a partition with fewer rows than it may have isn't full
pub not_full : (shape : Shape) (at : CacheKey) (pairs : Pairs) (count : ℕ) → rows_of shape.partitions (part_of at.key shape.partitions) pairs ≤ count → count < shape.max_rows → false ≡ is_full shape at pairs
not_full shape at pairs count few small = sym (second_false (not (is_some (get pairs at))) _ (lt-leb shape.max_rows (rows_of shape.partitions (part_of at.key shape.partitions) pairs) (omega arith)))
  where
    second_false : (a b : Bool) → b ≡ false → (a && b) ≡ false
    second_false true b h = h
    second_false false b h = refl
