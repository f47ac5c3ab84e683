-- How many rows a partition has, and whether it is full.
use Rattle.std.proofs.Common.{◌≡◌, ℕ, suc, ◌<◌, ◌≤◌, ◌&&◌, List, [], ◌∷◌, Bool, true, false, not, cond, length, map, None, Some, is_eq, refl, sym, ap, ◌∙◌, inl, inr, arith}
use Rattle.std.specs.Prelude.{All, AllPairs, count_by, nat_le}
use Rattle.std.specs.declared.cmp.Ordering.TheVariants.{Less, Equal, Greater}
use Rattle.std.specs.FinMap.{find, put, empty, entries, get-entries, entries-insert, len-empty, len-entries}
use Rattle.std.specs.FinMap.Entries.{by_order}
use Rattle.std.proofs.lemmas.Bool.{eq-eqb, le-leb, lt-leb, leb-true}
use Rattle.std.proofs.lemmas.List.Sums.{sum_by-cons}
use Rattle.pm_types.specs.declared.shape.Shape.{Shape}
use Rattle.pm_model.specs.Partitions.{part_of}
use Rattle.pm_model.specs.declared.cache_key.CacheKey.{CacheKey}
use Rattle.pm_model.specs.Eval.{cache_key, cache_key_cmp, is_of_part, is_full, rows_of}
use Rattle.pm_model.proofs.CacheKeys.{cache_keys_total}
use Rattle.pm_pages.specs.declared.row.Row.{Row}
use Rattle.pm_pages.specs.RowMaps.{map_of}
use Rattle.pm_pages.specs.WellFormed.{AreDifferent}
use Rattle.pm_part.proofs.KeyedRows.{HasKey, get_absent}
use Rattle.pm_pages.proofs.Quantified.{Holds, Each, each_of}
use Rattle.pm_part.proofs.OneMore.{EachPair, each_pair_of}
use Rattle.pm_part.proofs.RowKeys.{HasNoRow, no_row_in, row_or_none}
use Rattle.pm_part.proofs.MappedRows.{contains_key_there, contains_key_absent}

-- the rows are of this partition, of so many
abbrev pub AreOfPart : ℕ → ℕ → List Row → Type 0
AreOfPart partitions part rows = All (λ row. part_of row.key partitions ≡ part) rows

abbrev keys_in : List (CacheKey × List ℕ) → List CacheKey
keys_in es = map (λ e. e.0) es

-- a key that passes a test is one more that does
one_more : (test : CacheKey → Bool) (at : CacheKey) (keys : List CacheKey) → test at ≡ true → count_by test (at ∷ keys) ≡ suc (count_by test keys)
one_more test at keys passes =
    let one : cond (test at) 1 0 ≡ 1 = ap (λ (t : Bool). cond {A = ℕ} t 1 0) passes in
    omega (arith, sum_by-cons (λ at. cond (test at) 1 0) at keys, one)

count_put : (test : CacheKey → Bool) (at : CacheKey) (value : List ℕ) (es : List (CacheKey × List ℕ)) → test at ≡ true → find cache_key_cmp at es ≡ None → count_by test (keys_in (put cache_key_cmp at value es)) ≡ suc (count_by test (keys_in es))
count_put test at value [] passes none = one_more test at [] passes
count_put test at value (e ∷ es) passes none =
    let one : CacheKey → ℕ = λ at. cond (test at) 1 0 in
    let later = put cache_key_cmp at value es in
    elim (cache_key_cmp at e.0) as (λ o. cond (is_eq o) (Some e.1) (find cache_key_cmp at es) ≡ None → count_by test (keys_in (by_order o ((at, value) ∷ e ∷ es) ((e.0, value) ∷ es) (e ∷ later))) ≡ suc (count_by test (keys_in (e ∷ es)))) [
      | Less ↦ λ _. one_more test at (keys_in (e ∷ es)) passes
      | Equal ↦ λ none. absurd (cc none)
      | Greater ↦ λ none. omega (arith, sum_by-cons one e.0 (keys_in later), sum_by-cons one e.0 (keys_in es), count_put test at value es passes none)
    ] none

no_entries : entries (empty {X = List ℕ} {R = cache_key_cmp}) ≡ []
no_entries = none (entries empty) (sym (len-entries empty) ∙ len-empty cache_key_cmp (List ℕ))
  where
    none : (es : List (CacheKey × List ℕ)) → length es ≡ 0 → es ≡ []
    none [] short = refl
    none (e ∷ es) short = absurd (omega (arith, short))

counted : (partitions part : ℕ) (rows : List Row) → EachPair AreDifferent rows → Each (λ row. part_of row.key partitions ≡ part) rows → rows_of partitions part (map_of rows) ≡ length rows
unfolding map_of
counted partitions part [] once own = ap (λ (es : List (CacheKey × List ℕ)). count_by (is_of_part partitions part) (keys_in es)) no_entries
counted partitions part (row ∷ rows) once own =
    let test = is_of_part partitions part in
    let at = cache_key row.cache row.key in
    let none : find cache_key_cmp at (entries (map_of rows)) ≡ None = sym (get-entries (map_of rows) at) ∙ get_absent rows row.cache row.key (no_row_in row rows once.0) in
    ap (λ (es : List (CacheKey × List ℕ)). count_by test (keys_in es)) (entries-insert cache_keys_total (map_of rows) at row.value)
    ∙ count_put test at row.value (entries (map_of rows)) (eq-eqb (part_of row.key partitions) part own.0) none
    ∙ ap suc (counted partitions part rows once.1 own.1)

-- a partition's map has as many rows as there are
pub rows_counted : (partitions part : ℕ) (rows : List Row) → AllPairs AreDifferent rows → AreOfPart partitions part rows → rows_of partitions part (map_of rows) ≡ length rows
rows_counted partitions part rows once own = counted partitions part rows (each_pair_of AreDifferent rows once) (each_of (λ row. part_of row.key partitions ≡ part) rows own)

-- a key that has a row isn't refused
pub full_there : (shape : Shape) (rows : List Row) (cache : ℕ) (key : List ℕ) → AllPairs AreDifferent rows → Holds (HasKey cache key) rows → is_full shape (cache_key cache key) (map_of rows) ≡ false
full_there shape rows cache key once any =
    let few = nat_le shape.max_rows (rows_of shape.partitions (part_of key shape.partitions) (map_of rows)) in
    ap (λ b. not b && few) (contains_key_there rows cache key once any)

-- a new key is refused where there are as many rows as there may be
pub full_new : (shape : Shape) (part : ℕ) (rows : List Row) (cache : ℕ) (key : List ℕ) → AllPairs AreDifferent rows → AreOfPart shape.partitions part rows → part_of key shape.partitions ≡ part → HasNoRow rows cache key → is_full shape (cache_key cache key) (map_of rows) ≡ nat_le shape.max_rows (length rows)
full_new shape part rows cache key once own here none =
    let few : Bool = nat_le shape.max_rows (rows_of shape.partitions (part_of key shape.partitions) (map_of rows)) in
    ap (λ b. not b && few) (contains_key_absent rows cache key none)
    ∙ ap (λ p. nat_le shape.max_rows (rows_of shape.partitions p (map_of rows))) here
    ∙ ap (nat_le shape.max_rows) (rows_counted shape.partitions part rows once own)

pub is_full_at : (shape : Shape) (part : ℕ) (rows : List Row) (cache : ℕ) (key : List ℕ) → AllPairs AreDifferent rows → AreOfPart shape.partitions part rows → part_of key shape.partitions ≡ part → HasNoRow rows cache key → shape.max_rows ≤ length rows → is_full shape (cache_key cache key) (map_of rows) ≡ true
is_full_at shape part rows cache key once own here none many = full_new shape part rows cache key once own here none ∙ le-leb shape.max_rows (length rows) many

pub has_room : (shape : Shape) (part : ℕ) (rows : List Row) (cache : ℕ) (key : List ℕ) → AllPairs AreDifferent rows → AreOfPart shape.partitions part rows → part_of key shape.partitions ≡ part → HasNoRow rows cache key → length rows < shape.max_rows → is_full shape (cache_key cache key) (map_of rows) ≡ false
has_room shape part rows cache key once own here none few = full_new shape part rows cache key once own here none ∙ lt-leb shape.max_rows (length rows) few

-- a key is refused only where no row has it and there are as many rows as there may be
pub full_only : (shape : Shape) (part : ℕ) (rows : List Row) (cache : ℕ) (key : List ℕ) → AllPairs AreDifferent rows → AreOfPart shape.partitions part rows → part_of key shape.partitions ≡ part → is_full shape (cache_key cache key) (map_of rows) ≡ true → HasNoRow rows cache key × (shape.max_rows ≤ length rows)
full_only shape part rows cache key once own here full = elim (row_or_none rows cache key) [
  | inl any ↦ absurd (cc (full, full_there shape rows cache key once any))
  | inr none ↦ (none, leb-true shape.max_rows (length rows) (sym (full_new shape part rows cache key once own here none) ∙ full))
]
