-- Counted rows: what a key that comes or goes makes of the counts.
use Rattle.std.proofs.Common.{◌≡◌, ℕ, zero, ◌+◌, ◌<◌, inl, inr, List, [], ◌∷◌, cond, Bool, true, false, get_or, replicate, Some, refl, ap, sym, ◌∙◌, subst, is_eq, arith}
use Rattle.std.specs.Option.{is_some}
use Rattle.std.specs.declared.cmp.Ordering.TheVariants.{Less, Equal, Greater}
use Rattle.std.specs.Map.{keys_of, remove_entry}
use Rattle.std.specs.BTreeMap.{is_at, insert_entry}
use Rattle.std.specs.Ordering.{match_ordering}
use Rattle.std.proofs.lemmas.Bool.{cases_lt, eq-eqb}
use Rattle.std.proofs.lemmas.List.{get_or-replicate, get_or_past, length-replicate}
use Rattle.std.proofs.lemmas.List.Sums.{sum_by-cons}
use Rattle.pm_model.specs.declared.cache_key.CacheKey.{CacheKey}
use Rattle.pm_model.specs.Eval.{cache_key_cmp, is_of_part, rows_among}
use Rattle.pm_model.specs.Partitions.{part_of}
use Rattle.pm_model.specs.declared.row_counts.RowCounts.{RowCounts}
use Rattle.pm_model.specs.Counts.{count_of, one_at, AreCountsOf, HasOneMore}
use Rattle.pm_model.proofs.CacheKeys.{exact_cache_keys, value_at}

-- nothing is counted of any partition at first
pub none_counted : (counts part : ℕ) → get_or (replicate counts zero) part zero ≡ zero
none_counted counts part =
    elim (cases_lt part counts) [
      | inl below ↦ get_or-replicate counts part 0 0 below
      | inr past ↦ get_or_past (replicate counts 0) part 0 (omega (arith, past, length-replicate counts zero))
    ]

module _ (partitions part : ℕ) where
  -- one where the key is a row of the partition
  abbrev one_of : CacheKey → ℕ
  one_of at = one_at (part_of at.key partitions) part

  -- how many of the entries are rows of the partition
  abbrev rows_in : List (CacheKey × List ℕ) → ℕ
  rows_in entries = rows_among partitions part (keys_of entries)

  -- a key at the front is a row of its partition
  rows_among-cons : (at : CacheKey) (keys : List CacheKey) → rows_among partitions part (at ∷ keys) ≡ one_of at + rows_among partitions part keys
  rows_among-cons at keys = sum_by-cons (λ at. cond (is_of_part partitions part at) 1 0) at keys

  -- a key in front of others adds to them what it adds alone
  behind : (e : CacheKey × List ℕ) (fewer more : List (CacheKey × List ℕ)) (n : ℕ) → rows_in more ≡ rows_in fewer + n → rows_in (e ∷ more) ≡ rows_in (e ∷ fewer) + n
  behind e fewer more n rest = omega (arith, rest, rows_among-cons e.0 (keys_of fewer), rows_among-cons e.0 (keys_of more))

  -- a new key is one row more of its partition
  rows_in-insert : (at : CacheKey) (value : List ℕ) (entries : List (CacheKey × List ℕ)) → is_some (value_at entries at) ≡ false → rows_in (insert_entry cache_key_cmp entries at value) ≡ rows_in entries + one_of at
  rows_in-insert at value [] absent = omega (arith, rows_among-cons at [])
  rows_in-insert at value (e ∷ es) absent =
      elim (cache_key_cmp at e.0) as (λ order. is_some (cond (is_eq order) (Some e.1) (value_at es at)) ≡ false → rows_in (match_ordering order ((at, value) ∷ e ∷ es) ((e.0, value) ∷ es) (e ∷ insert_entry cache_key_cmp es at value)) ≡ rows_in (e ∷ es) + one_of at) [
        | Less ↦ λ _. omega (arith, rows_among-cons at (keys_of (e ∷ es)))
        | Equal ↦ λ absent. absurd cc
        | Greater ↦ λ absent. behind e es (insert_entry cache_key_cmp es at value) (one_of at) (rows_in-insert at value es absent)
      ] absent

  -- a key that goes is one row less of its partition
  rows_in-remove : (at : CacheKey) (entries : List (CacheKey × List ℕ)) → is_some (value_at entries at) ≡ true → rows_in entries ≡ rows_in (remove_entry (is_at (cache_key_cmp at)) entries) + one_of at
  rows_in-remove at [] there = absurd cc
  rows_in-remove at (e ∷ es) there =
      let rest = remove_entry (is_at (cache_key_cmp at)) es in
      elim (cache_key_cmp at e.0) as (λ order. cache_key_cmp at e.0 ≡ order → is_some (cond (is_eq order) (Some e.1) (value_at es at)) ≡ true → rows_in (e ∷ es) ≡ rows_in (cond (is_eq order) es (e ∷ rest)) + one_of at) [
        | Less ↦ λ _ there. behind e rest es (one_of at) (rows_in-remove at es there)
        | Equal ↦ λ tied _. omega (arith, rows_among-cons e.0 (keys_of es), ap one_of (exact_cache_keys at e.0 tied))
        | Greater ↦ λ _ there. behind e rest es (one_of at) (rows_in-remove at es there)
      ] refl there

-- to count the next key keeps the sum of what is counted and what is left
pub next_counted : (old new : RowCounts) (partitions part of all : ℕ) (at : CacheKey) (keys left : List CacheKey) → HasOneMore of old new → of ≡ part_of at.key partitions → keys ≡ at ∷ left → count_of old part + rows_among partitions part keys ≡ all → count_of new part + rows_among partitions part left ≡ all
next_counted old new partitions part of all at keys left more of_is is sum =
    let next = ap (rows_among partitions part) is ∙ rows_among-cons partitions part at left in
    let same = ap (λ o. one_at o part) of_is in
    omega (arith, sum, next, more.each part, same)

-- the counts with a new key's row are those of the entries with the key
pub counts_insert : (old new : RowCounts) (of : ℕ) (at : CacheKey) (value : List ℕ) (entries : List (CacheKey × List ℕ)) → AreCountsOf old (keys_of entries) → HasOneMore of old new → of ≡ part_of at.key old.partitions → is_some (value_at entries at) ≡ false → AreCountsOf new (keys_of (insert_entry cache_key_cmp entries at value))
counts_insert old new of at value entries was more of_is absent =
    let P = λ (partitions : ℕ). AreCountsOf (record new { partitions = partitions }) (keys_of (insert_entry cache_key_cmp entries at value)) in
    subst P (sym more.partitions) (record {
      partitions = was.partitions;
      each = λ part below.
          let same = ap (λ o. one_at o part) of_is in
          omega (arith, was.each part below, more.each part, same, rows_in-insert old.partitions part at value entries absent);
    })

-- the counts without a key's row are those of the entries without the key
pub counts_remove : (old new : RowCounts) (of : ℕ) (at : CacheKey) (entries : List (CacheKey × List ℕ)) → AreCountsOf old (keys_of entries) → HasOneMore of new old → of ≡ part_of at.key old.partitions → is_some (value_at entries at) ≡ true → AreCountsOf new (keys_of (remove_entry (is_at (cache_key_cmp at)) entries))
counts_remove old new of at entries was more of_is there =
    let P = λ (partitions : ℕ). AreCountsOf (record new { partitions = partitions }) (keys_of (remove_entry (is_at (cache_key_cmp at)) entries)) in
    subst P more.partitions (record {
      partitions = was.partitions;
      each = λ part below.
          let same = ap (λ o. one_at o part) of_is in
          omega (arith, was.each part below, more.each part, same, rows_in-remove old.partitions part at entries there);
    })

-- a partition that has a key has a row
pub some_rows : (counts : RowCounts) (at : CacheKey) (entries : List (CacheKey × List ℕ)) → AreCountsOf counts (keys_of entries) → part_of at.key counts.partitions < counts.partitions → is_some (value_at entries at) ≡ true → 0 < count_of counts (part_of at.key counts.partitions)
some_rows counts at entries are below there =
    let part = part_of at.key counts.partitions in
    let one = ap (λ (is : Bool). cond {A = ℕ} is 1 0) (eq-eqb part part refl) in
    omega (arith, are.each part below, rows_in-remove counts.partitions part at entries there, one)
