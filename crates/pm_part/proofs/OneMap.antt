-- Rows of which no two have one key make one map, whatever the order in which they are listed.
use Rattle.std.proofs.Common.{◌≡◌, ◌≢◌, ℕ, List, [], ◌∷◌, Option, None, Some, cond, map, refl, sym, ap, subst, ◌∙◌, inl, inr}
use Rattle.std.specs.Prelude.{Any, AllPairs}
use Rattle.std.specs.BTreeMap.{is_at}
use Rattle.std.specs.FinMap as finmap
use Rattle.std.specs.FinMap.{same_map}
use Rattle.std.proofs.lemmas.Bool.{cases_Bool}
use Rattle.std.proofs.lemmas.Cmp.{eq_by_cmp_equiv}
use Rattle.pm_model.specs.declared.cache_key.CacheKey.{CacheKey}
use Rattle.pm_model.specs.Eval.{cache_key, cache_key_cmp}
use Rattle.pm_model.proofs.CacheKeys.{value_at, get_value, exact_cache_keys, cache_keys_total}
use Rattle.pm_pages.specs.declared.row.Row.{Row}
use Rattle.pm_pages.specs.RowMaps.{entry_of, map_of}
use Rattle.pm_pages.specs.WellFormed.{AreDifferent}
use Rattle.pm_part.specs.OneMap.{HasSameRows, HasEachRow, HasNoOther}
use Rattle.pm_part.proofs.KeyedRows.{HasKey, HasValue, equal, get_there, get_absent}
use Rattle.pm_pages.proofs.Quantified.{Holds, Each, each_of, all_of, each_map, holds_of}
use Rattle.pm_part.proofs.RowKeys.{row_or_none}

holds_map : {A : Type 0} (P Q : A → Type 0) (xs : List A) → ((x : A) → P x → Q x) → Holds P xs → Holds Q xs
holds_map P Q [] f h = absurd h
holds_map P Q (x ∷ xs) f h = elim h [ inl here ↦ inl (f x here) | inr later ↦ inr (holds_map P Q xs f later) ]

-- what holds of each element that a list has
each_in : {A : Type 0} (P : A → Type 0) (xs : List A) → ((x : A) → Holds (λ y. y ≡ x) xs → P x) → Each P xs
each_in P [] f = tt
each_in P (x ∷ xs) f = (f x (inl refl), each_in P xs (λ y h. f y (inr h)))

-- what holds of some element of a list holds of one of a list with the same elements
included : {A : Type 0} (P : A → Type 0) (xs ys : List A) → Each (λ x. Any (λ y. y ≡ x) ys) xs → Holds P xs → Holds P ys
included P [] ys each h = absurd h
included P (x ∷ xs) ys each h = elim h [
  | inl here ↦ holds_map (λ y. y ≡ x) P ys (λ y e. subst P (sym e) here) (holds_of (λ y. y ≡ x) ys each.0)
  | inr later ↦ included P xs ys each.1 later
]

-- a value that is found is a row's
value_found : (rows : List Row) (at : CacheKey) (value : List ℕ) → value_at (map entry_of rows) at ≡ Some value → Holds (HasValue at.cache at.key value) rows
value_found [] at value is = absurd (cc is)
value_found (row ∷ rows) at value is =
    let rest = value_at (map entry_of rows) at in
    elim (cases_Bool (is_at (cache_key_cmp at) (cache_key row.cache row.key))) [
      | inl hit ↦
          let same : at ≡ cache_key row.cache row.key = exact_cache_keys at (cache_key row.cache row.key) (equal _ hit) in
          let here : Some row.value ≡ Some value = sym (ap (λ b. cond b (Some row.value) rest) hit) ∙ is in
          inl (record {
            has = record { cache_is = sym (ap (λ (k : CacheKey). k.cache) same); key_is = sym (ap (λ (k : CacheKey). k.key) same) };
            value_is = cc here;
          })
      | inr miss ↦ inr (value_found rows at value (sym (ap (λ b. cond b (Some row.value) rest) miss) ∙ is))
    ]

-- a row's key has a value
value_some : (rows : List Row) (at : CacheKey) → Holds (HasKey at.cache at.key) rows → value_at (map entry_of rows) at ≡ None → ⊥
value_some [] at any is = absurd any
value_some (row ∷ rows) at any is =
    let rest = value_at (map entry_of rows) at in
    elim (cases_Bool (is_at (cache_key_cmp at) (cache_key row.cache row.key))) [
      | inl hit ↦ absurd (cc (sym (ap (λ b. cond b (Some row.value) rest) hit) ∙ is))
      | inr miss ↦ elim any [
        | inl here ↦ absurd (cc (sym miss ∙ (λ k. is_at (cache_key_cmp at) (cache_key (here.cache_is k) (here.key_is k))) ∙ (eq_by_cmp_equiv cache_keys_total).refl at))
        | inr later ↦ value_some rows at later (sym (ap (λ b. cond b (Some row.value) rest) miss) ∙ is)
      ]
    ]

pub each_row : (rows : List Row) → AllPairs AreDifferent rows → HasEachRow rows
each_row rows once =
    let P : Row → Type 0 = λ row. finmap.get (map_of rows) (cache_key row.cache row.key) ≡ Some row.value in
    all_of P rows (each_in P rows (λ row h. get_there rows row.cache row.key row.value once
    (holds_map (λ other. other ≡ row) (HasValue row.cache row.key row.value) rows
    (λ other e. record { has = record { cache_is = ap (λ (r : Row). r.cache) e; key_is = ap (λ (r : Row). r.key) e }; value_is = ap (λ (r : Row). r.value) e }) h)))

pub no_other : (rows : List Row) → HasNoOther rows
no_other rows cache key all =
    get_absent rows cache key (each_map (λ row. row.cache ≡ cache → row.key ≢ key) (λ row. HasKey cache key row → ⊥) rows (λ row apart has. apart has.cache_is has.key_is)
    (each_of (λ row. row.cache ≡ cache → row.key ≢ key) rows all))

pub one_map : (rows others : List Row) → AllPairs AreDifferent rows → HasSameRows rows others → map_of others ≡ map_of rows
unfolding map_of
one_map rows others once same = same_map cache_keys_total exact_cache_keys (map_of others) (map_of rows) (λ at.
    get_value (map entry_of others) at ∙ agree at (value_at (map entry_of others) at) refl)
  where
    all : Each (λ row. Any (λ other. other ≡ row) others) rows
    all = each_of (λ row. Any (λ other. other ≡ row) others) rows same.all

    only : Each (λ other. Any (λ row. row ≡ other) rows) others
    only = each_of (λ other. Any (λ row. row ≡ other) rows) others same.only

    agree : (at : CacheKey) (found : Option (List ℕ)) → value_at (map entry_of others) at ≡ found → found ≡ finmap.get (map_of rows) at
    agree at (Some value) is = sym (get_there rows at.cache at.key value once (included (HasValue at.cache at.key value) others rows only (value_found others at value is)))
    agree at None is = elim (row_or_none rows at.cache at.key) [
      | inl any ↦ absurd (value_some others at (included (HasKey at.cache at.key) rows others all any) is)
      | inr none ↦ sym (get_absent rows at.cache at.key none)
    ]
