-- A partition with a key has its first page.
use Rattle.std.proofs.Common.{◌≡◌, inl, inr, ℕ, ◌≤◌, Bool, true, false, List, [], Option, None, Some, refl, sym, ap, ◌∙◌, cond}
use Rattle.std.specs.Prelude.{IsSome, not, if◌then◌else◌}
use Rattle.std.specs.FinMap.{get, insert, get-insert}
use Rattle.std.specs.Option.{is_some}
use Rattle.std.specs.List.{flat_map, range_with_len}
use Rattle.std.proofs.lemmas.Bool.{false≢true}
use Rattle.std.proofs.lemmas.Cmp.{eq_by_cmp_equiv}
use Rattle.pm_types.specs.declared.shape.Shape.{Shape}
use Rattle.pm_types.specs.Ids.{page_id}
use Rattle.pm_records.proofs.Runs.{option_cases}
use Rattle.pm_model.specs.declared.cache_key.CacheKey.{CacheKey}
use Rattle.pm_model.specs.declared.line.Cmd.TheVariants.{Put, Get, Remove, Scan, Checkpoint}
use Rattle.pm_model.specs.declared.line.Line.{Line}
use Rattle.pm_model.specs.declared.line.Line.TheVariants.{Good, Bad, Long}
use Rattle.pm_model.specs.Eval.{Pairs, cache_key, is_full, is_accepted, after}
use Rattle.pm_model.specs.Orders.{part_of_line}
use Rattle.pm_model.specs.Partitions.{part_of}
use Rattle.pm_model.proofs.CacheKeys.{get_value, cache_keys_total}
use Rattle.pm_pages.specs.declared.row.Row.{Row}
use Rattle.pm_pages.specs.RowMaps.{map_of}
use Rattle.pm_pages.specs.Rows.{Partition, rows_of, rows_on, page_at, number_of}
use Rattle.pm_meta.specs.declared.slots.MetaSlot.TheVariants.{Pages}
use Rattle.pm_core.specs.BasePages.{Partitions, counted}
use Rattle.pm_core.specs.Held.{AllWellFormed, pairs_in}
use Rattle.pm_engine.proofs.StoreMaps.{value_by_part}

-- a partition without its first page has no row
no_row : (part : ℕ) (pages : Partition) → pages 0 ≡ None → rows_of part (counted pages) ≡ []
no_row part pages none = ap (λ n. flat_map (λ i. rows_on (page_id part i) (page_at (counted pages) i)) (range_with_len 0 n)) (ap (λ o. number_of o Pages) none)

none_there : (at : CacheKey) → get (map_of []) at ≡ None
unfolding map_of
none_there at = get_value [] at

some_there : (o : Option (List ℕ)) (v : List ℕ) → o ≡ Some v → IsSome o
some_there o v is = ap is_some is

-- where the store's map has a key, the key's partition has its first page
pub first_of_key : (shape : Shape) (pages : Partitions) → AllWellFormed shape pages → (at : CacheKey) → 1 ≤ shape.partitions → IsSome (get (pairs_in shape.partitions pages) at) → IsSome (pages (part_of at.key shape.partitions) 0)
first_of_key shape pages well at some has = elim (option_cases (pages (part_of at.key shape.partitions) 0)) [
  | inr there ↦ ap is_some there.1
  | inl none ↦
      let part = part_of at.key shape.partitions in
      let away : get (pairs_in shape.partitions pages) at ≡ None =
      value_by_part shape pages well at some ∙ ap (λ (rows : List Row). get (map_of rows) at) (no_row part (pages part) none) ∙ none_there at in
      absurd (false≢true (sym (ap is_some away) ∙ has))
]

-- a put has its key in the map
put_there : (pairs : Pairs) (at : CacheKey) (value : List ℕ) → get (insert pairs at value) at ≡ Some value
put_there pairs at value = get-insert cache_keys_total pairs at value at ∙ ap (λ (b : Bool). cond b (Some value) (get pairs at)) ((eq_by_cmp_equiv cache_keys_total).refl at)

off_not : (b : Bool) → not b ≡ true → b ≡ false
off_not true is = absurd (false≢true is)
off_not false is = refl

-- An accepted line's partition has its first page afterwards, if it has it still where it had it before.
pub first_accepted : (shape : Shape) (line : Line) (old new : Partitions) → 1 ≤ shape.partitions → AllWellFormed shape old → AllWellFormed shape new → is_accepted shape line (pairs_in shape.partitions old) ≡ true
    → pairs_in shape.partitions new ≡ after shape line (pairs_in shape.partitions old) → (IsSome (old (part_of_line shape line) 0) → IsSome (new (part_of_line shape line) 0)) → IsSome (new (part_of_line shape line) 0)
first_accepted shape (Good (Put cache key value)) old new some well_old well_new accepted map still =
    let pairs = pairs_in shape.partitions old in
    let at = cache_key cache key in
    let put : pairs_in shape.partitions new ≡ insert pairs at value =
    map ∙ ap (λ (b : Bool). let m : Pairs = if b then pairs else insert pairs at value in m) (off_not (is_full shape at pairs) accepted) in
    first_of_key shape new well_new at some (ap is_some (ap (λ (m : Pairs). get m at) put ∙ put_there pairs at value))
first_accepted shape (Good (Get cache key)) old new some well_old well_new accepted map still = absurd (false≢true accepted)
first_accepted shape (Good (Remove cache key)) old new some well_old well_new accepted map still = still (first_of_key shape old well_old (cache_key cache key) some accepted)
first_accepted shape (Good (Scan cache)) old new some well_old well_new accepted map still = absurd (false≢true accepted)
first_accepted shape (Good Checkpoint) old new some well_old well_new accepted map still = absurd (false≢true accepted)
first_accepted shape Bad old new some well_old well_new accepted map still = absurd (false≢true accepted)
first_accepted shape Long old new some well_old well_new accepted map still = absurd (false≢true accepted)
