-- A row of a new key is placed in a partition that is laid out, its link put into the index of its cache, and the row count set:
-- the partition is well formed, and the rows make the map with the key.
use Rattle.std.proofs.Common.{◌≡◌, ℕ, ◌+◌, ◌<◌, List, Option, length, sym, ap, subst, ◌∙◌, arith}
use Rattle.std.specs.Prelude.{All, AllPairs}
use Rattle.pm_types.specs.declared.limits.TheConstants.{CACHES}
use Rattle.pm_types.specs.declared.shape.Shape.{Shape}
use Rattle.pm_types.specs.declared.page_id.Link.{Link}
use Rattle.pm_types.specs.PageSizes.{IsPageSize}
use Rattle.pm_btpage.specs.IndexPages.{Item}
use Rattle.pm_meta.specs.declared.slots.MetaSlot.TheVariants.{Rows, Pages}
use Rattle.pm_model.specs.Partitions.{part_of}
use Rattle.pm_model.specs.declared.line.Line.TheVariants.{Good}
use Rattle.pm_model.specs.declared.line.Cmd.TheVariants.{Put}
use Rattle.pm_model.specs.declared.reply.Reply.TheVariants.{Done}
use Rattle.pm_pages.specs.declared.row.Row.{Row}
use Rattle.pm_pages.specs.Rows.{number_in, rows_of, row_of}
use Rattle.pm_pages.specs.Trees.{root_of, ListsRows}
use Rattle.pm_pages.specs.Paged.{Paged}
use Rattle.pm_pages.specs.Edits.{EditsPages}
use Rattle.pm_pages.specs.SparePages.{SetsNumber, MetaBecomes}
use Rattle.pm_pages.specs.SoundPages.{PassesAll}
use Rattle.pm_pages.specs.WellFormed.{IsWellFormed, HasKeysOnce, AreDifferent}
use Rattle.pm_tree.specs.Maps.{put_in}
use Rattle.pm_tree.specs.Indexes.{IsIndex}
use Rattle.pm_tree.specs.Roots.{PutsIndex}
use Rattle.pm_free.specs.Placed.{PlacesRow}
use Rattle.pm_part.specs.LaidOut.{IsLaidOut}
use Rattle.pm_part.proofs.DataSteps.{laid_place}
use Rattle.pm_part.proofs.TreeSteps.{NoDataFirst, set_at, lists_set}
use Rattle.pm_part.proofs.KeyPuts.{laid_put, put_keeps_data}
use Rattle.pm_part.proofs.CountSteps.{laid_count, count_is, count_keeps_data, number_stays}
use Rattle.pm_part.proofs.KeptRows.{rows_kept}
use Rattle.pm_part.proofs.KeyedRows.{HasValue}
use Rattle.pm_part.proofs.ListedRows.{lists_added, lists_other_added}
use Rattle.pm_part.proofs.RowKeys.{HasNoRow, once_with_new, all_more, length_more}
use Rattle.pm_part.proofs.RowReplies.{HasEffect, put_of_new}
use Rattle.pm_part.proofs.LaidOutWell.{well_formed_of}

module _ (shape : Shape) (T : Type 0) (a b c d : Paged) (cache : ℕ) (key value row : List ℕ) (at_link : Link) (was : Option Link) (m : ℕ)
    (t : T) (few : cache < CACHES) (size : IsPageSize d.page_size)
    (page_size : shape.page_size ≡ d.page_size) (max_rows : shape.max_rows ≡ d.max_rows) (part_d : d.part ≡ a.part)
    (items : ℕ → List Item) (laid_a : IsLaidOut a.pages items) (lists_a : (c : ℕ) → c < CACHES → ListsRows (rows_of a.part a.pages) c (items c))
    (keys_a : HasKeysOnce shape a.part a.pages)
    (places : PlacesRow a.page_size a.part a.pages b.pages row at_link) (has : HasValue cache key value (row_of at_link row))
    (none : HasNoRow (rows_of a.part a.pages) cache key) (own : part_of key shape.partitions ≡ a.part) (room : length (rows_of a.part a.pages) < shape.max_rows)
    (first : NoDataFirst b.pages c.pages) (first_c : NoDataFirst c.pages d.pages)
    (puts : (height : ℕ) (nodes : List ℕ) (items : List Item) → IsIndex b.pages (root_of b.pages cache) height nodes items → PutsIndex b.pages c.pages cache nodes items key at_link.0 was)
    (edits : EditsPages T c d (λ j. j ≡ 0) m) (sets : MetaBecomes c d (λ now then. SetsNumber now then Rows (number_in a.pages Rows + 1)))
    (passes : PassesAll d) where
  abbrev new_row : Row
  new_row = row_of at_link row

  abbrev all : List Row
  all = rows_of a.part b.pages

  abbrev less : List Row
  less = rows_of a.part a.pages

  abbrev items_now : ℕ → List Item
  items_now = set_at items cache (put_in (items cache) key at_link.0)

  laid_b : IsLaidOut b.pages items
  laid_b = laid_place a.page_size a.part a.pages b.pages row at_link items laid_a places

  put : PutsIndex b.pages c.pages cache (laid_b.nodes cache) (items cache) key at_link.0 was
  put = puts (laid_b.heights cache) (laid_b.nodes cache) (items cache) (laid_b.indexes cache few)

  laid_c : IsLaidOut c.pages items_now
  laid_c = laid_put b.pages c.pages cache key at_link.0 was items laid_b few first put

  laid_d : IsLaidOut d.pages items_now
  laid_d = laid_count T c d (number_in a.pages Rows + 1) m t edits sets first_c items_now laid_c

  -- the rows are those with the one that was placed
  pub rows_now : rows_of a.part d.pages ≡ all
  rows_now =
      rows_kept a.part c.pages d.pages (omega (arith, number_stays T c d (number_in a.pages Rows + 1) m t edits sets first_c Pages tt (λ e. absurd (cc e)))) (count_keeps_data T c d (number_in a.pages Rows + 1) m t edits sets first_c)
      ∙ rows_kept a.part b.pages c.pages put.moves.count (put_keeps_data b.pages c.pages cache key at_link.0 was items laid_b few first put)

  lists_all : (c : ℕ) → c < CACHES → ListsRows all c (items_now c)
  lists_all = lists_set all items cache (put_in (items cache) key at_link.0)
      (subst (λ k. ListsRows all cache (put_in (items cache) k at_link.0)) has.has.key_is
      (lists_added less all new_row cache (items cache) places.rows has.has.cache_is (subst (HasNoRow less cache) (sym has.has.key_is) none) (lists_a cache few)))
      (λ c other few_c. lists_other_added less all new_row c (items c) places.rows (λ e. other (sym e ∙ has.has.cache_is)) (lists_a c few_c))

  keys_all : HasKeysOnce shape a.part d.pages
  keys_all = record {
    once = subst (AllPairs AreDifferent) (sym rows_now) (once_with_new less all new_row places.rows
        (subst (λ (q : ℕ × List ℕ). HasNoRow less q.0 q.1) {x = (cache, key)} {y = (new_row.cache, new_row.key)} (λ k. (sym has.has.cache_is k, sym has.has.key_is k)) none) keys_a.once);
    of_part = subst (λ (rows : List Row). All (λ (r : Row). part_of r.key shape.partitions ≡ a.part) rows) (sym rows_now)
        (all_more (λ (r : Row). part_of r.key shape.partitions ≡ a.part) less all new_row places.rows (subst (λ k. part_of k shape.partitions ≡ a.part) (sym has.has.key_is) own) keys_a.of_part);
    counted = omega (arith, count_is T c d (number_in a.pages Rows + 1) m t edits sets first_c, keys_a.counted, length_more less all new_row places.rows, ap (λ (rows : List Row). length rows) rows_now);
  }

  pub addition_well_formed : IsWellFormed shape a.part d.pages
  addition_well_formed =
      subst (λ n. IsWellFormed shape n d.pages) part_d
      (well_formed_of shape d page_size max_rows passes size items_now laid_d
      (λ c few_c. subst (λ (rows : List Row). ListsRows rows c (items_now c)) (sym (ap (λ n. rows_of n d.pages) part_d ∙ rows_now)) (lists_all c few_c))
      (subst (λ n. HasKeysOnce shape n d.pages) (sym part_d) keys_all))

  pub addition_effect : HasEffect shape (Good (Put cache key value)) Done (rows_of a.part a.pages) (rows_of a.part d.pages)
  addition_effect = subst (HasEffect shape (Good (Put cache key value)) Done less) (sym rows_now)
      (put_of_new shape a.part less all new_row cache key value places.rows keys_a.once keys_a.of_part own none room has)
