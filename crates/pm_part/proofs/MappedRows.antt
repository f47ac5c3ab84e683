-- The map of rows once a row is added, taken or replaced, and whether it has a key.
use Rattle.std.proofs.Common.{◌≡◌, ℕ, ◌⊎◌, List, [], ◌∷◌, ◌++◌, true, false, cond, Option, None, Some, map, is_eq, refl, sym, ap, ◌∙◌, inl, inr}
use Rattle.std.specs.Prelude.{AllPairs}
use Rattle.std.specs.Option.{is_some}
use Rattle.std.specs.declared.cmp.Ordering.{Ordering}
use Rattle.std.specs.declared.cmp.Ordering.TheVariants.{Less, Equal, Greater}
use Rattle.std.specs.BTreeMap.{is_at}
use Rattle.std.specs.FinMap as finmap
use Rattle.std.proofs.lemmas.Bool.{cases_Bool}
use Rattle.std.proofs.lemmas.Cmp.{eq_by_cmp_equiv}
use Rattle.pm_model.specs.declared.cache_key.CacheKey.{CacheKey}
use Rattle.pm_model.specs.Eval.{cache_key, cache_key_cmp}
use Rattle.pm_model.proofs.CacheKeys.{value_at, exact_cache_keys, cache_keys_total, one_put, one_removed}
use Rattle.pm_pages.specs.declared.row.Row.{Row}
use Rattle.pm_pages.specs.RowMaps.{entry_of, map_of}
use Rattle.pm_pages.specs.WellFormed.{AreDifferent}
use Rattle.pm_free.specs.Placed.{HasOneMore}
use Rattle.pm_part.proofs.KeyedRows.{HasKey, HasValue, value_there, value_absent, get_there, get_absent}
use Rattle.pm_pages.proofs.Quantified.{Holds}
use Rattle.pm_part.proofs.RowKeys.{HasNoRow, holds_one, no_other_row, once_replaced}

tied : (o : Ordering) → is_eq o ≡ true → o ≡ Equal
tied Less e = absurd (cc e)
tied Equal e = refl
tied Greater e = absurd (cc e)

alike : (at : CacheKey) → is_at (cache_key_cmp at) at ≡ true
alike at = (eq_by_cmp_equiv cache_keys_total).refl at

-- two keys of caches are the same, or a test finds neither at the other
same_or_not : (at each : CacheKey) → (at ≡ each) ⊎ ((is_at (cache_key_cmp at) each ≡ false) × (is_at (cache_key_cmp each) at ≡ false))
same_or_not at each = elim (cases_Bool (is_at (cache_key_cmp at) each)) [
  | inl hit ↦ inl (exact_cache_keys at each (tied _ hit))
  | inr miss ↦ inr (miss, (eq_by_cmp_equiv cache_keys_total).symm each at ∙ miss)
]

-- a key's own value

value_one : (rows : List Row) (row : Row) → AllPairs AreDifferent rows → Holds (HasValue row.cache row.key row.value) rows → (each : CacheKey) → cache_key row.cache row.key ≡ each → value_at (map entry_of rows) each ≡ Some row.value
value_one rows row once any each same = ap (λ (k : CacheKey). value_at (map entry_of rows) k) (sym same) ∙ value_there rows row.cache row.key row.value once any

itself : (less all : List Row) (row : Row) → HasOneMore less all row → Holds (HasValue row.cache row.key row.value) all
itself less all row one = holds_one (HasValue row.cache row.key row.value) less all row one (record { has = record { cache_is = refl; key_is = refl }; value_is = refl })

-- other keys have the values that they have without the row

around_beside : (xs ys : List Row) (row : Row) (each : CacheKey) → is_at (cache_key_cmp each) (cache_key row.cache row.key) ≡ false → value_at (map entry_of (xs ++ row ∷ ys)) each ≡ value_at (map entry_of (xs ++ ys)) each
around_beside [] ys row each miss = ap (λ b. cond b (Some row.value) (value_at (map entry_of ys) each)) miss
around_beside (x ∷ xs) ys row each miss = ap (λ v. cond (is_at (cache_key_cmp each) (cache_key x.cache x.key)) (Some x.value) v) (around_beside xs ys row each miss)

value_beside : (less all : List Row) (row : Row) → HasOneMore less all row → (each : CacheKey) → is_at (cache_key_cmp each) (cache_key row.cache row.key) ≡ false → value_at (map entry_of all) each ≡ value_at (map entry_of less) each
value_beside less all row one each miss =
    ap (λ (t : List Row). value_at (map entry_of t) each) one.more ∙ around_beside one.before one.after row each miss
    ∙ ap (λ (t : List Row). value_at (map entry_of t) each) (sym one.fewer)

-- a row added

pub map_added : (less all : List Row) (row : Row) → HasOneMore less all row → AllPairs AreDifferent all → map_of all ≡ finmap.insert (map_of less) (cache_key row.cache row.key) row.value
unfolding map_of
map_added less all row one once =
    let at = cache_key row.cache row.key in
    one_put (map entry_of less) (map entry_of all) at row.value (λ each. elim (same_or_not at each) [
      | inl same ↦ value_one all row once (itself less all row one) each same
          ∙ sym (ap (λ (k : CacheKey). cond (is_at (cache_key_cmp at) k) (Some row.value) (value_at (map entry_of less) each)) (sym same) ∙ ap (λ b. cond b (Some row.value) (value_at (map entry_of less) each)) (alike at))
      | inr miss ↦ value_beside less all row one each miss.1 ∙ sym (ap (λ b. cond b (Some row.value) (value_at (map entry_of less) each)) miss.0)
    ])

-- a row taken

pub map_taken : (less all : List Row) (row : Row) → HasOneMore less all row → AllPairs AreDifferent all → map_of less ≡ finmap.remove (map_of all) (cache_key row.cache row.key)
unfolding map_of
map_taken less all row one once =
    let at = cache_key row.cache row.key in
    let gone = value_absent less row.cache row.key (no_other_row less all row one once) in
    one_removed (map entry_of all) (map entry_of less) at (λ each. elim (same_or_not at each) [
      | inl same ↦ ap (λ (k : CacheKey). value_at (map entry_of less) k) (sym same) ∙ gone
          ∙ sym (ap (λ (k : CacheKey). cond (is_at (cache_key_cmp at) k) None (value_at (map entry_of all) each)) (sym same) ∙ ap (λ b. cond b None (value_at (map entry_of all) each)) (alike at))
      | inr miss ↦ sym (value_beside less all row one each miss.1) ∙ sym (ap (λ b. cond b None (value_at (map entry_of all) each)) miss.0)
    ])

-- a row in another's place, of the same cache and key, with another value or name

pub map_replaced : (less old new : List Row) (row other : Row) → HasOneMore less old row → HasOneMore less new other → other.cache ≡ row.cache → other.key ≡ row.key → AllPairs AreDifferent old → map_of new ≡ finmap.insert (map_of old) (cache_key row.cache row.key) other.value
unfolding map_of
map_replaced less old new row other was now cache_same key_same once =
    let at = cache_key other.cache other.key in
    let at_same : cache_key row.cache row.key ≡ at = λ i. cache_key (sym cache_same i) (sym key_same i) in
    let once_now = once_replaced less old new row other was now cache_same key_same once in
    let put = one_put (map entry_of old) (map entry_of new) at other.value (λ each. elim (same_or_not at each) [
      | inl same ↦ value_one new other once_now (itself less new other now) each same
          ∙ sym (ap (λ (k : CacheKey). cond (is_at (cache_key_cmp at) k) (Some other.value) (value_at (map entry_of old) each)) (sym same) ∙ ap (λ b. cond b (Some other.value) (value_at (map entry_of old) each)) (alike at))
      | inr miss ↦ value_beside less new other now each miss.1
          ∙ sym (value_beside less old row was each (ap (λ (k : CacheKey). is_at (cache_key_cmp each) k) at_same ∙ miss.1))
          ∙ sym (ap (λ b. cond b (Some other.value) (value_at (map entry_of old) each)) miss.0)
    ]) in
    put ∙ ap (λ (k : CacheKey). finmap.insert (map_of old) k other.value) (sym at_same)

-- whether a key is there

pub value_of : (rows : List Row) (cache : ℕ) (key : List ℕ) → Holds (HasKey cache key) rows → (value : List ℕ) × Holds (HasValue cache key value) rows
value_of [] cache key any = absurd any
value_of (row ∷ rows) cache key any = elim any [
  | inl here ↦ (row.value, inl (record { has = here; value_is = refl }))
  | inr later ↦ (let found = value_of rows cache key later in (found.0, inr found.1))
]

pub contains_key_there : (rows : List Row) (cache : ℕ) (key : List ℕ) → AllPairs AreDifferent rows → Holds (HasKey cache key) rows → finmap.contains_key (map_of rows) (cache_key cache key) ≡ true
contains_key_there rows cache key once any =
    let found = value_of rows cache key any in
    ap (λ (o : Option (List ℕ)). is_some o) (get_there rows cache key found.0 once found.1)

pub contains_key_absent : (rows : List Row) (cache : ℕ) (key : List ℕ) → HasNoRow rows cache key → finmap.contains_key (map_of rows) (cache_key cache key) ≡ false
contains_key_absent rows cache key none = ap (λ (o : Option (List ℕ)). is_some o) (get_absent rows cache key none)
