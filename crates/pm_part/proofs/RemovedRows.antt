-- A row is taken out of a well-formed partition, its key removed from the index of its cache, and the row count set: the partition
-- is well formed, and the rows make the map without the key.
use Rattle.std.proofs.Common.{◌≡◌, ℕ, ◌-◌, ◌<◌, ◌≤◌, List, Option, length, true, sym, ap, subst, ◌∙◌, arith}
use Rattle.std.specs.Prelude.{All, AllPairs}
use Rattle.pm_types.specs.declared.limits.TheConstants.{CACHES}
use Rattle.pm_types.specs.declared.shape.Shape.{Shape}
use Rattle.pm_types.specs.declared.page_id.Link.{Link}
use Rattle.pm_types.specs.PageSizes.{IsPageSize}
use Rattle.pm_btpage.specs.IndexPages.{Item}
use Rattle.pm_meta.specs.declared.slots.MetaSlot.TheVariants.{Rows, Pages}
use Rattle.pm_model.specs.Partitions.{part_of}
use Rattle.pm_model.specs.declared.line.Line.TheVariants.{Good}
use Rattle.pm_model.specs.declared.line.Cmd.TheVariants.{Remove}
use Rattle.pm_model.specs.declared.reply.Reply.TheVariants.{Was}
use Rattle.pm_pages.specs.declared.row.Row.{Row}
use Rattle.pm_pages.specs.Rows.{page_count, number_in, rows_of, row_of}
use Rattle.pm_pages.specs.Trees.{root_of, ListsRows}
use Rattle.pm_pages.specs.Paged.{Paged}
use Rattle.pm_pages.specs.Edits.{EditsPages}
use Rattle.pm_pages.specs.SparePages.{SetsNumber, MetaBecomes}
use Rattle.pm_pages.specs.SoundPages.{PassesAll}
use Rattle.pm_pages.specs.WellFormed.{IsWellFormed, HasKeysOnce, AreDifferent}
use Rattle.pm_tree.specs.Indexes.{IsIndex}
use Rattle.pm_tree_del.specs.Maps.{remove_in}
use Rattle.pm_tree_del.specs.Roots.{RemovesIndex}
use Rattle.pm_free.specs.Placed.{TakesRow}
use Rattle.pm_part.specs.LaidOut.{IsLaidOut}
use Rattle.pm_part.proofs.DataSteps.{laid_take}
use Rattle.pm_part.proofs.TreeSteps.{NoDataFirst, set_at, lists_set}
use Rattle.pm_part.proofs.KeyRemovals.{laid_remove, removal_keeps_data}
use Rattle.pm_part.proofs.CountSteps.{laid_count, count_is, count_keeps_data, number_stays}
use Rattle.pm_part.proofs.KeptRows.{rows_kept}
use Rattle.pm_part.proofs.KeyedRows.{HasKey}
use Rattle.pm_part.proofs.ListedRows.{lists_taken, lists_other_taken}
use Rattle.pm_part.proofs.RowKeys.{once_less, all_less, length_more}
use Rattle.pm_part.proofs.RowReplies.{HasEffect, remove_of_row}
use Rattle.pm_part.proofs.WellLaidOut.{items_of_cache, laid_of, lists_of}
use Rattle.pm_part.proofs.LaidOutWell.{well_formed_of}

module _ (shape : Shape) (T : Type 0) (a b c d : Paged) (cache : ℕ) (key : List ℕ) (at_link : Link) (was : Option Link) (m : ℕ)
    (t : T) (few : cache < CACHES) (size : IsPageSize d.page_size)
    (page_size : (shape.page_size ≡ a.page_size) × (shape.page_size ≡ d.page_size)) (max_rows : (shape.max_rows ≡ a.max_rows) × (shape.max_rows ≡ d.max_rows))
    (part_b : b.part ≡ a.part) (part_c : c.part ≡ a.part) (part_d : d.part ≡ a.part)
    (some : 1 ≤ page_count a.pages) (well_formed : IsWellFormed shape a.part a.pages)
    (takes : TakesRow a.part a.pages b.pages at_link) (has : HasKey cache key (row_of at_link takes.row))
    (first : NoDataFirst b.pages c.pages) (first_c : NoDataFirst c.pages d.pages)
    (removes : (height : ℕ) (nodes : List ℕ) (items : List Item) → IsIndex b.pages (root_of b.pages cache) height nodes items → RemovesIndex b.pages c.pages cache nodes items key was)
    (edits : EditsPages T c d (λ j. j ≡ 0) m) (sets : MetaBecomes c d (λ now then. SetsNumber now then Rows (number_in a.pages Rows - 1)))
    (passes : PassesAll d) where
  abbrev row : Row
  row = row_of at_link takes.row

  abbrev all : List Row
  all = rows_of a.part a.pages

  abbrev less : List Row
  less = rows_of a.part b.pages

  abbrev items : ℕ → List Item
  items = items_of_cache a.pages

  abbrev items_now : ℕ → List Item
  items_now = set_at items cache (remove_in (items cache) key)

  laid_a : IsLaidOut a.pages items
  laid_a = laid_of shape a page_size.0 max_rows.0 well_formed some

  laid_b : IsLaidOut b.pages items
  laid_b = laid_take a.part a.pages b.pages at_link items laid_a takes

  removed : RemovesIndex b.pages c.pages cache (laid_b.nodes cache) (items cache) key was
  removed = removes (laid_b.heights cache) (laid_b.nodes cache) (items cache) (laid_b.indexes cache few)

  laid_c : IsLaidOut c.pages items_now
  laid_c = laid_remove b.pages c.pages cache key was items laid_b few first removed

  laid_d : IsLaidOut d.pages items_now
  laid_d = laid_count T c d (number_in a.pages Rows - 1) m t edits sets first_c items_now laid_c

  -- the rows are those without the one that was taken out
  pub rows_now : rows_of a.part d.pages ≡ less
  rows_now =
      rows_kept a.part c.pages d.pages (omega (arith, number_stays T c d (number_in a.pages Rows - 1) m t edits sets first_c Pages tt (λ e. absurd (cc e)))) (count_keeps_data T c d (number_in a.pages Rows - 1) m t edits sets first_c)
      ∙ rows_kept a.part b.pages c.pages (omega (arith, removed.gives.count)) (removal_keeps_data b.pages c.pages cache key was items laid_b few first removed)

  lists_less : (c : ℕ) → c < CACHES → ListsRows less c (items_now c)
  lists_less = lists_set less items cache (remove_in (items cache) key)
      (subst (λ k. ListsRows less cache (remove_in (items cache) k)) has.key_is
      (lists_taken less all row cache (items cache) takes.rows well_formed.keys_once.once has.cache_is (lists_of shape a page_size.0 max_rows.0 well_formed cache few)))
      (λ c other few_c. lists_other_taken less all row c (items c) takes.rows (λ e. other (sym e ∙ has.cache_is)) (lists_of shape a page_size.0 max_rows.0 well_formed c few_c))

  keys_less : HasKeysOnce shape a.part d.pages
  keys_less = record {
    once = subst (AllPairs AreDifferent) (sym rows_now) (once_less less all row takes.rows well_formed.keys_once.once);
    of_part = subst (λ (rows : List Row). All (λ (r : Row). part_of r.key shape.partitions ≡ a.part) rows) (sym rows_now) (all_less (λ (r : Row). part_of r.key shape.partitions ≡ a.part) less all row takes.rows well_formed.keys_once.of_part);
    counted = omega (arith, count_is T c d (number_in a.pages Rows - 1) m t edits sets first_c, well_formed.keys_once.counted, length_more less all row takes.rows, ap (λ (rows : List Row). length rows) rows_now);
  }

  pub removal_well_formed : IsWellFormed shape a.part d.pages
  removal_well_formed =
      subst (λ n. IsWellFormed shape n d.pages) part_d
      (well_formed_of shape d page_size.1 max_rows.1 passes size items_now laid_d
      (λ c few_c. subst (λ (rows : List Row). ListsRows rows c (items_now c)) (sym (ap (λ n. rows_of n d.pages) part_d ∙ rows_now)) (lists_less c few_c))
      (subst (λ n. HasKeysOnce shape n d.pages) (sym part_d) keys_less))

  pub removal_effect : HasEffect shape (Good (Remove cache key)) (Was true) (rows_of a.part a.pages) (rows_of a.part d.pages)
  removal_effect = subst (HasEffect shape (Good (Remove cache key)) (Was true) all) (sym rows_now) (remove_of_row shape less all row cache key takes.rows well_formed.keys_once.once has)
