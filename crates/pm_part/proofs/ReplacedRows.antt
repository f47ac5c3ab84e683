-- A row takes the place of that which its key has, and where its link is another one the index of its cache gets it: the partition
-- is well formed, and the rows make the map with the new value.
use Rattle.std.proofs.Common.{◌≡◌, ℕ, ◌<◌, ◌≤◌, List, Option, length, sym, ap, subst, ◌∙◌}
use Rattle.std.specs.Prelude.{All, AllPairs}
use Rattle.pm_types.specs.declared.limits.TheConstants.{CACHES}
use Rattle.pm_types.specs.declared.shape.Shape.{Shape}
use Rattle.pm_types.specs.declared.page_id.Link.{Link}
use Rattle.pm_types.specs.PageSizes.{IsPageSize}
use Rattle.pm_btpage.specs.IndexPages.{Item}
use Rattle.pm_meta.specs.declared.slots.MetaSlot.TheVariants.{Rows}
use Rattle.pm_model.specs.Partitions.{part_of}
use Rattle.pm_model.specs.declared.line.Line.TheVariants.{Good}
use Rattle.pm_model.specs.declared.line.Cmd.TheVariants.{Put}
use Rattle.pm_model.specs.declared.reply.Reply.TheVariants.{Done}
use Rattle.pm_pages.specs.declared.row.Row.{Row}
use Rattle.pm_pages.specs.Rows.{Partition, page_count, rows_of}
use Rattle.pm_pages.specs.Trees.{root_of, ListsRows}
use Rattle.pm_pages.specs.Paged.{Paged}
use Rattle.pm_pages.specs.SoundPages.{PassesAll}
use Rattle.pm_pages.specs.WellFormed.{IsWellFormed, HasKeysOnce, AreDifferent}
use Rattle.pm_tree.specs.Maps.{put_in}
use Rattle.pm_tree.specs.Indexes.{IsIndex}
use Rattle.pm_tree.specs.Roots.{PutsIndex}
use Rattle.pm_free.specs.Placed.{HasOneMore, KeepsRoots}
use Rattle.pm_part.specs.LaidOut.{IsLaidOut}
use Rattle.pm_part.proofs.TreeSteps.{NoDataFirst, set_at, lists_set}
use Rattle.pm_part.proofs.KeyPuts.{laid_put, put_keeps_data}
use Rattle.pm_part.proofs.KeptRows.{rows_kept}
use Rattle.pm_part.proofs.KeyedRows.{HasKey, HasValue}
use Rattle.pm_part.proofs.ListedRows.{lists_moved, lists_kept, lists_other_moved}
use Rattle.pm_part.proofs.RowKeys.{once_replaced, length_replaced, all_replaced}
use Rattle.pm_part.proofs.RowReplies.{HasEffect, put_of_row}
use Rattle.pm_part.proofs.WellLaidOut.{items_of_cache, laid_of, lists_of}
use Rattle.pm_part.proofs.LaidOutWell.{well_formed_of}

-- A row took the place of another one: but for it the rows are as they were, the partition stays laid out, and no root changed nor
-- the row count.
pub record ReplacesRow (part : ℕ) (old new : Partition) (row other : Row) : Type 0 where
  pub less : List Row
  pub before : HasOneMore less (rows_of part old) row
  pub after : HasOneMore less (rows_of part new) other
  pub laid : (items : ℕ → List Item) → IsLaidOut old items → IsLaidOut new items
  pub numbers : KeepsRoots old new

module _ (shape : Shape) (a b : Paged) (cache : ℕ) (key value : List ℕ) (row other : Row)
    (some : 1 ≤ page_count a.pages) (page_size : shape.page_size ≡ a.page_size) (max_rows : shape.max_rows ≡ a.max_rows) (well_formed : IsWellFormed shape a.part a.pages)
    (replaces : ReplacesRow a.part a.pages b.pages row other) (has : HasKey cache key row) (is : HasValue cache key value other) where
  abbrev items : ℕ → List Item
  items = items_of_cache a.pages

  same_cache : other.cache ≡ row.cache
  same_cache = is.has.cache_is ∙ sym has.cache_is

  same_key : other.key ≡ row.key
  same_key = is.has.key_is ∙ sym has.key_is

  laid_b : IsLaidOut b.pages items
  laid_b = replaces.laid items (laid_of shape a page_size max_rows well_formed some)

  keys_b : HasKeysOnce shape a.part b.pages
  keys_b = record {
    once = once_replaced replaces.less (rows_of a.part a.pages) (rows_of a.part b.pages) row other replaces.before replaces.after same_cache same_key well_formed.keys_once.once;
    of_part = all_replaced (λ (r : Row). part_of r.key shape.partitions ≡ a.part) replaces.less (rows_of a.part a.pages) (rows_of a.part b.pages) row other replaces.before replaces.after
        (λ own. ap (λ k. part_of k shape.partitions) same_key ∙ own) well_formed.keys_once.of_part;
    counted = replaces.numbers Rows tt (λ e. absurd (cc e)) (λ e. absurd (cc e)) (λ bucket e. absurd (cc e)) ∙ well_formed.keys_once.counted
        ∙ sym (length_replaced replaces.less (rows_of a.part a.pages) (rows_of a.part b.pages) row other replaces.before replaces.after);
  }

  effect_b : HasEffect shape (Good (Put cache key value)) Done (rows_of a.part a.pages) (rows_of a.part b.pages)
  effect_b = put_of_row shape replaces.less (rows_of a.part a.pages) (rows_of a.part b.pages) row other cache key value replaces.before replaces.after well_formed.keys_once.once has is

  -- the link is the same
  module _ (link : other.link.0 ≡ row.link.0) (size : IsPageSize b.page_size) (page_size_b : shape.page_size ≡ b.page_size) (max_rows_b : shape.max_rows ≡ b.max_rows)
      (part_b : b.part ≡ a.part) (passes : PassesAll b) where
    pub kept_well_formed : IsWellFormed shape a.part b.pages
    kept_well_formed =
        subst (λ n. IsWellFormed shape n b.pages) part_b
        (well_formed_of shape b page_size_b max_rows_b passes size items laid_b
        (λ c few_c. subst (λ n. ListsRows (rows_of n b.pages) c (items c)) (sym part_b)
        (lists_kept replaces.less (rows_of a.part a.pages) (rows_of a.part b.pages) row other c (items c) replaces.before replaces.after same_cache same_key link
        (lists_of shape a page_size max_rows well_formed c few_c)))
        (subst (λ n. HasKeysOnce shape n b.pages) (sym part_b) keys_b))

    pub kept_effect : HasEffect shape (Good (Put cache key value)) Done (rows_of a.part a.pages) (rows_of a.part b.pages)
    kept_effect = effect_b

  -- the link is another one, and the index has it
  module _ (c : Paged) (was : List Item → Option Link) (few : cache < CACHES) (first : NoDataFirst b.pages c.pages)
      (puts : (height : ℕ) (nodes : List ℕ) (items : List Item) → IsIndex b.pages (root_of b.pages cache) height nodes items → PutsIndex b.pages c.pages cache nodes items key other.link.0 (was items))
      (size : IsPageSize c.page_size) (page_size_c : shape.page_size ≡ c.page_size) (max_rows_c : shape.max_rows ≡ c.max_rows) (part_c : c.part ≡ a.part) (passes : PassesAll c) where
    put : PutsIndex b.pages c.pages cache (laid_b.nodes cache) (items cache) key other.link.0 (was (items cache))
    put = puts (laid_b.heights cache) (laid_b.nodes cache) (items cache) (laid_b.indexes cache few)

    abbrev items_now : ℕ → List Item
    items_now = set_at items cache (put_in (items cache) key other.link.0)

    rows_now : rows_of a.part c.pages ≡ rows_of a.part b.pages
    rows_now = rows_kept a.part b.pages c.pages put.moves.count (put_keeps_data b.pages c.pages cache key other.link.0 (was (items cache)) items laid_b few first put)

    lists_now : (k : ℕ) → k < CACHES → ListsRows (rows_of a.part b.pages) k (items_now k)
    lists_now = lists_set (rows_of a.part b.pages) items cache (put_in (items cache) key other.link.0)
        (subst (λ k. ListsRows (rows_of a.part b.pages) cache (put_in (items cache) k other.link.0)) has.key_is
        (lists_moved replaces.less (rows_of a.part a.pages) (rows_of a.part b.pages) row other cache (items cache) replaces.before replaces.after same_cache same_key well_formed.keys_once.once has.cache_is
        (lists_of shape a page_size max_rows well_formed cache few)))
        (λ k ne few_k. lists_other_moved replaces.less (rows_of a.part a.pages) (rows_of a.part b.pages) row other k (items k) replaces.before replaces.after same_cache
        (λ e. ne (sym e ∙ has.cache_is)) (lists_of shape a page_size max_rows well_formed k few_k))

    keys_now : HasKeysOnce shape a.part c.pages
    keys_now = record {
      once = subst (AllPairs AreDifferent) (sym rows_now) keys_b.once;
      of_part = subst (λ (rows : List Row). All (λ (r : Row). part_of r.key shape.partitions ≡ a.part) rows) (sym rows_now) keys_b.of_part;
      counted = put.numbers Rows tt (λ e. absurd (cc e)) (λ e. absurd (cc e)) (λ e. absurd (cc e)) ∙ keys_b.counted ∙ ap (λ (rows : List Row). length rows) (sym rows_now);
    }

    pub moved_well_formed : IsWellFormed shape a.part c.pages
    moved_well_formed =
        subst (λ n. IsWellFormed shape n c.pages) part_c
        (well_formed_of shape c page_size_c max_rows_c passes size items_now (laid_put b.pages c.pages cache key other.link.0 (was (items cache)) items laid_b few first put)
        (λ k few_k. subst (λ (rows : List Row). ListsRows rows k (items_now k)) (sym (ap (λ n. rows_of n c.pages) part_c ∙ rows_now)) (lists_now k few_k))
        (subst (λ n. HasKeysOnce shape n c.pages) (sym part_c) keys_now))

    pub moved_effect : HasEffect shape (Good (Put cache key value)) Done (rows_of a.part a.pages) (rows_of a.part c.pages)
    moved_effect = subst (HasEffect shape (Good (Put cache key value)) Done (rows_of a.part a.pages)) (sym rows_now) effect_b
