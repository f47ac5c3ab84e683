-- The map of a store has of each partition the rows that its pages have: a line that has a key is answered by the
-- partition of the key alone, and what it does to that partition's map it does to the store's.
use Rattle.std.proofs.Common.{◌≡◌, ◌≢◌, ℕ, zero, suc, ◌+◌, ◌<◌, ◌≤◌, inl, inr, List, [], ◌∷◌, ◌++◌, cond, true, false, Some, None, Option, refl, ap, sym, ◌∙◌, map, arith}
use Rattle.std.specs.Prelude.{All}
use Rattle.std.specs.List.{flat_map, range_with_len}
use Rattle.std.specs.BTreeMap.{is_at}
use Rattle.std.specs.FinMap.{get, get-retain_keys, same_map}
use Rattle.std.proofs.lemmas.Bool.{cases_Bool, cases_eq, eq-eqb, ne_eqb}
use Rattle.std.proofs.lemmas.List.Elements.{All-head, All-tail}
use Rattle.pm_types.specs.declared.shape.Shape.{Shape}
use Rattle.pm_model.specs.declared.cache_key.CacheKey.{CacheKey}
use Rattle.pm_model.specs.declared.line.Line.{Line}
use Rattle.pm_model.specs.Partitions.{part_of}
use Rattle.pm_model.specs.Orders.{part_of_line, part_rows, is_barrier}
use Rattle.pm_model.specs.Eval.{Pairs, cache_key, cache_key_cmp, is_of_part, reply_to, after, is_accepted}
use Rattle.pm_model.proofs.CacheKeys.{value_at, get_value, exact_cache_keys, cache_keys_total}
use Rattle.pm_model.proofs.PartitionRows.{reply_by_rows, accepted_by_rows, rows_here, rows_elsewhere}
use Rattle.pm_pages.specs.declared.row.Row.{Row}
use Rattle.pm_pages.specs.Rows.{rows_of}
use Rattle.pm_pages.specs.RowMaps.{entry_of, map_of}
use Rattle.pm_part.proofs.KeyedRows.{equal}
use Rattle.pm_core.specs.BasePages.{Partitions, counted}
use Rattle.pm_core.specs.Held.{AllWellFormed, entries_in, pairs_in}
use Rattle.pm_engine.specs.PagedStores.{part_map, RunsOnPart}

-- a key of another partition has no row
absent : (partitions part : ℕ) (rows : List Row) (at : CacheKey) → All (λ (row : Row). part_of row.key partitions ≡ part) rows → part_of at.key partitions ≢ part → value_at (map entry_of rows) at ≡ None
absent partitions part [] at own away = refl
absent partitions part (row ∷ rows) at own away =
    let P : Row → Type 0 = λ (row : Row). part_of row.key partitions ≡ part in
    elim (cases_Bool (is_at (cache_key_cmp at) (cache_key row.cache row.key))) [
      | inl hit ↦
          let same : at ≡ cache_key row.cache row.key = exact_cache_keys at (cache_key row.cache row.key) (equal _ hit) in
          absurd (away (ap (λ (k : CacheKey). part_of k.key partitions) same ∙ All-head P row rows own))
      | inr miss ↦
          ap (λ b. cond b (Some row.value) (value_at (map entry_of rows) at)) miss ∙ absent partitions part rows at (All-tail P row rows own) away
    ]

past_none : (xs ys : List (CacheKey × List ℕ)) (at : CacheKey) → value_at xs at ≡ None → value_at (xs ++ ys) at ≡ value_at ys at
past_none [] ys at none = refl
past_none (x ∷ xs) ys at none = elim (is_at (cache_key_cmp at) x.0) as (λ b. cond b (Some x.1) (value_at xs at) ≡ None → cond b (Some x.1) (value_at (xs ++ ys) at) ≡ value_at ys at) [
  | true ↦ λ none. absurd cc
  | false ↦ λ none. past_none xs ys at none
] none

before_none : (xs ys : List (CacheKey × List ℕ)) (at : CacheKey) → value_at ys at ≡ None → value_at (xs ++ ys) at ≡ value_at xs at
before_none [] ys at none = none
before_none (x ∷ xs) ys at none = ap (λ (o : Option (List ℕ)). cond (is_at (cache_key_cmp at) x.0) (Some x.1) o) (before_none xs ys at none)

module _ (f : ℕ → List (CacheKey × List ℕ)) (at : CacheKey) where
  none_in : (from count : ℕ) → ((part : ℕ) → from ≤ part → part < from + count → value_at (f part) at ≡ None) → value_at (flat_map f (range_with_len from count)) at ≡ None
  none_in from zero none = refl
  none_in from (suc count) none =
      past_none (f from) (flat_map f (range_with_len (from + 1) count)) at (none from (omega arith) (omega arith))
      ∙ none_in (from + 1) count (λ part ge lt. none part (omega (arith, ge)) (omega (arith, lt)))

  -- of the lists in a range only one has the key
  one_in : (from count p : ℕ) → from ≤ p → p < from + count → ((part : ℕ) → from ≤ part → part < from + count → part ≢ p → value_at (f part) at ≡ None) → value_at (flat_map f (range_with_len from count)) at ≡ value_at (f p) at
  one_in from zero p ge lt none = absurd (omega (arith, ge, lt))
  one_in from (suc count) p ge lt none =
      let rest = flat_map f (range_with_len (from + 1) count) in
      elim (cases_eq from p) [
        | inl same ↦
            before_none (f from) rest at (none_in (from + 1) count (λ part ge' lt'. none part (omega (arith, ge')) (omega (arith, lt')) (λ e. absurd (omega (arith, e, same, ge')))))
            ∙ ap (λ q. value_at (f q) at) same
        | inr other ↦
            past_none (f from) rest at (none from (omega arith) (omega arith) other)
            ∙ one_in (from + 1) count p (omega (arith, ge, other)) (omega (arith, lt)) (λ part ge' lt' ne. none part (omega (arith, ge')) (omega (arith, lt')) ne)
      ]

-- a key is of one of the partitions
pub part_below : (shape : Shape) (key : List ℕ) → 1 ≤ shape.partitions → part_of key shape.partitions < shape.partitions
part_below shape key some = omega (arith, some)

module _ (shape : Shape) (pages : Partitions) (well : AllWellFormed shape pages) where
  abbrev entries_at : ℕ → List (CacheKey × List ℕ)
  entries_at part = map entry_of (rows_of part (counted (pages part)))

  not_there : (part : ℕ) (at : CacheKey) → part < shape.partitions → part_of at.key shape.partitions ≢ part → value_at (entries_at part) at ≡ None
  not_there part at below away = absent shape.partitions part (rows_of part (counted (pages part))) at (well part below).keys_once.of_part away

  -- the store's map has at a key what the map of the key's partition has
  pub value_by_part : (at : CacheKey) → 1 ≤ shape.partitions → get (pairs_in shape.partitions pages) at ≡ get (part_map pages (part_of at.key shape.partitions)) at
  unfolding pairs_in map_of
  value_by_part at some =
      let p = part_of at.key shape.partitions in
      get_value (entries_in shape.partitions pages) at
      ∙ one_in entries_at at 0 shape.partitions p (omega arith) (omega (arith, part_below shape at.key some)) (λ part ge lt ne. not_there part at (omega (arith, lt)) (λ e. ne (sym e)))
      ∙ sym (get_value (entries_at p) at)

  pub absent_by_part : (part : ℕ) (at : CacheKey) → part < shape.partitions → part_of at.key shape.partitions ≢ part → get (part_map pages part) at ≡ None
  unfolding map_of
  absent_by_part part at below away = get_value (entries_at part) at ∙ not_there part at below away

  -- the rows of a partition, of the store's map
  pub rows_by_part : (part : ℕ) → part < shape.partitions → part_rows shape part (pairs_in shape.partitions pages) ≡ part_map pages part
  rows_by_part part below =
      let m = pairs_in shape.partitions pages in
      same_map cache_keys_total exact_cache_keys _ _ (λ at.
      get-retain_keys m (is_of_part shape.partitions part) at (λ x tied. ap (is_of_part shape.partitions part) (sym (exact_cache_keys at x tied)))
      ∙ elim (cases_eq (part_of at.key shape.partitions) part) [
        | inl here ↦
            ap (λ b. cond b (get m at) None) (eq-eqb (part_of at.key shape.partitions) part here)
            ∙ value_by_part at (omega (arith, below)) ∙ ap (λ p. get (part_map pages p) at) here
        | inr away ↦
            ap (λ b. cond b (get m at) None) (ne_eqb (part_of at.key shape.partitions) part away)
            ∙ sym (absent_by_part part at below away)
      ])

  module _ (part : ℕ) (line : Line) (below : part < shape.partitions) (is : part_of_line shape line ≡ part) where
    rows_of_line : part_rows shape (part_of_line shape line) (pairs_in shape.partitions pages) ≡ part_map pages part
    rows_of_line = ap (λ p. part_rows shape p (pairs_in shape.partitions pages)) is ∙ rows_by_part part below

    pub reply_by_part : is_barrier line ≡ false → reply_to shape line (pairs_in shape.partitions pages) ≡ reply_to shape line (part_map pages part)
    reply_by_part free = sym (reply_by_rows shape line (pairs_in shape.partitions pages) free) ∙ ap (reply_to shape line) rows_of_line

    pub accepted_by_part : is_accepted shape line (pairs_in shape.partitions pages) ≡ is_accepted shape line (part_map pages part)
    accepted_by_part = sym (accepted_by_rows shape line (pairs_in shape.partitions pages)) ∙ ap (is_accepted shape line) rows_of_line

-- the rows of the store's map at a key
own_value : (shape : Shape) (pairs : Pairs) (at : CacheKey) → get (part_rows shape (part_of at.key shape.partitions) pairs) at ≡ get pairs at
own_value shape pairs at =
    let p = part_of at.key shape.partitions in
    get-retain_keys pairs (is_of_part shape.partitions p) at (λ x tied. ap (is_of_part shape.partitions p) (sym (exact_cache_keys at x tied)))
    ∙ ap (λ b. cond b (get pairs at) None) (eq-eqb p p refl)

-- maps with the same rows in each partition of the store are one
same_parts : (shape : Shape) (a b : Pairs) → 1 ≤ shape.partitions → ((part : ℕ) → part < shape.partitions → part_rows shape part a ≡ part_rows shape part b) → a ≡ b
same_parts shape a b some same = same_map cache_keys_total exact_cache_keys _ _ (λ at.
    sym (own_value shape a at)
    ∙ ap (λ (m : Pairs). get m at) (same (part_of at.key shape.partitions) (part_below shape at.key some))
    ∙ own_value shape b at)

-- the store's map after a line of a partition's key
pub after_by_part : (shape : Shape) (part : ℕ) (line : Line) (old new : Partitions) → part < shape.partitions → part_of_line shape line ≡ part → AllWellFormed shape old → RunsOnPart shape part line old new → pairs_in shape.partitions new ≡ after shape line (pairs_in shape.partitions old)
after_by_part shape part line old new below is well runs =
    let m = pairs_in shape.partitions old in
    same_parts shape (pairs_in shape.partitions new) (after shape line m) (omega (arith, below)) (λ other lt.
    rows_by_part shape new runs.well_formed other lt
    ∙ elim (cases_eq (part_of_line shape line) other) [
      | inl here ↦
          let one : part ≡ other = sym is ∙ here in
          ap (λ p. part_map new p) (sym one) ∙ runs.here ∙ ap (λ (k : Pairs). after shape line k) (sym (rows_by_part shape old well part below) ∙ ap (λ p. part_rows shape p m) one)
          ∙ sym (rows_here shape other line m (eq-eqb (part_of_line shape line) other here))
      | inr away ↦
          runs.elsewhere other lt (λ e. away (is ∙ sym e)) ∙ sym (rows_by_part shape old well other lt)
          ∙ sym (rows_elsewhere shape other line m (ne_eqb (part_of_line shape line) other away))
    ])
