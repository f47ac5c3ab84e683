-- The map that rows make: a key has the value of its row, and no value where no row has it.
use Rattle.std.proofs.Common.{◌≡◌, ℕ, List, [], ◌∷◌, None, Some, true, is_eq, map, refl, sym, ap, ◌∙◌, inl, inr}
use Rattle.std.specs.Prelude.{AllPairs, cond}
use Rattle.std.specs.declared.cmp.Ordering.{Ordering}
use Rattle.std.specs.declared.cmp.Ordering.TheVariants.{Less, Equal, Greater}
use Rattle.std.specs.BTreeMap.{is_at}
use Rattle.std.proofs.lemmas.Cmp.{eq_by_cmp_equiv}
use Rattle.std.specs.FinMap as finmap
use Rattle.std.proofs.lemmas.Bool.{cases_Bool, false≢true}
use Rattle.pm_model.specs.declared.cache_key.CacheKey.{CacheKey}
use Rattle.pm_model.specs.Eval.{cache_key, cache_key_cmp}
use Rattle.pm_model.proofs.CacheKeys.{value_at, get_value, exact_cache_keys, cache_keys_total}
use Rattle.pm_pages.specs.declared.row.Row.{Row}
use Rattle.pm_pages.specs.RowMaps.{entry_of, map_of}
use Rattle.pm_pages.specs.WellFormed.{AreDifferent}
use Rattle.pm_pages.proofs.Quantified.{Holds, Each, first_pairs, later_pairs}

-- the row of a key of a cache
pub record HasKey (cache : ℕ) (key : List ℕ) (row : Row) : Type 0 where
  pub cache_is : row.cache ≡ cache
  pub key_is : row.key ≡ key

-- the row of a key of a cache, with this value
pub record HasValue (cache : ℕ) (key value : List ℕ) (row : Row) : Type 0 where
  pub has : HasKey cache key row
  pub value_is : row.value ≡ value

pub equal : (o : Ordering) → is_eq o ≡ true → o ≡ Equal
equal Less e = absurd (cc e)
equal Equal e = refl
equal Greater e = absurd (cc e)

alike : (at : CacheKey) → is_at (cache_key_cmp at) at ≡ true
alike at = (eq_by_cmp_equiv cache_keys_total).refl at

no_other : (rows : List Row) (row : Row) (cache : ℕ) (key value : List ℕ) → Each (AreDifferent row) rows → HasKey cache key row → Holds (HasValue cache key value) rows → ⊥
no_other [] row cache key value all has any = absurd any
no_other (other ∷ rows) row cache key value all has any = elim any [
  | inl here ↦ all.0 (has.cache_is ∙ sym here.has.cache_is) (has.key_is ∙ sym here.has.key_is)
  | inr later ↦ no_other rows row cache key value all.1 has later
]

pub value_there : (rows : List Row) (cache : ℕ) (key value : List ℕ) → AllPairs AreDifferent rows → Holds (HasValue cache key value) rows → value_at (map entry_of rows) (cache_key cache key) ≡ Some value
value_there [] cache key value once any = absurd any
value_there (row ∷ rows) cache key value once any =
    let at = cache_key cache key in
    let test = is_at (cache_key_cmp at) (cache_key row.cache row.key) in
    let rest = value_at (map entry_of rows) at in
    elim (cases_Bool test) [
      | inl hit ↦
          let same : at ≡ cache_key row.cache row.key = exact_cache_keys at (cache_key row.cache row.key) (equal _ hit) in
          let has : HasKey cache key row = record { cache_is = sym (ap (λ (k : CacheKey). k.cache) same); key_is = sym (ap (λ (k : CacheKey). k.key) same) } in
          ap (λ b. cond b (Some row.value) rest) hit ∙ elim any [
            | inl here ↦ ap (λ (v : List ℕ). Some v) here.value_is
            | inr later ↦ absurd (no_other rows row cache key value (first_pairs AreDifferent row rows once) has later)
          ]
      | inr miss ↦
          ap (λ b. cond b (Some row.value) rest) miss ∙ elim any [
            | inl here ↦ absurd (false≢true (sym miss ∙ (λ k. is_at (cache_key_cmp at) (cache_key (here.has.cache_is k) (here.has.key_is k))) ∙ alike at))
            | inr later ↦ value_there rows cache key value (later_pairs AreDifferent row rows once) later
          ]
    ]

pub value_absent : (rows : List Row) (cache : ℕ) (key : List ℕ) → Each (λ row. HasKey cache key row → ⊥) rows → value_at (map entry_of rows) (cache_key cache key) ≡ None
value_absent [] cache key none = refl
value_absent (row ∷ rows) cache key none =
    let at = cache_key cache key in
    let rest = value_at (map entry_of rows) at in
    elim (cases_Bool (is_at (cache_key_cmp at) (cache_key row.cache row.key))) [
      | inl hit ↦
          let same : at ≡ cache_key row.cache row.key = exact_cache_keys at (cache_key row.cache row.key) (equal _ hit) in
          absurd (none.0 (record { cache_is = sym (ap (λ (k : CacheKey). k.cache) same); key_is = sym (ap (λ (k : CacheKey). k.key) same) }))
      | inr miss ↦ ap (λ b. cond b (Some row.value) rest) miss ∙ value_absent rows cache key none.1
    ]

pub get_there : (rows : List Row) (cache : ℕ) (key value : List ℕ) → AllPairs AreDifferent rows → Holds (HasValue cache key value) rows → finmap.get (map_of rows) (cache_key cache key) ≡ Some value
unfolding map_of
get_there rows cache key value once any = get_value (map entry_of rows) (cache_key cache key) ∙ value_there rows cache key value once any

pub get_absent : (rows : List Row) (cache : ℕ) (key : List ℕ) → Each (λ row. HasKey cache key row → ⊥) rows → finmap.get (map_of rows) (cache_key cache key) ≡ None
unfolding map_of
get_absent rows cache key none = get_value (map entry_of rows) (cache_key cache key) ∙ value_absent rows cache key none
