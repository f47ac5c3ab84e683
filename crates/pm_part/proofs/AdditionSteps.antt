-- A row of a new key that is added to a well-formed partition leaves one.
use Rattle.std.proofs.Common.{◌≡◌, ℕ, ◌+◌, ◌*◌, ◌<◌, ◌≤◌, List, sym, ap, subst, ◌∙◌, arith}
use Rattle.std.specs.Prelude.{Option}
use Rattle.pm_types.specs.declared.limits.TheConstants.{CACHES}
use Rattle.pm_types.specs.declared.shape.Shape.{Shape}
use Rattle.pm_types.specs.declared.page_id.Link.{Link}
use Rattle.pm_types.specs.PageSizes.{IsPageSize}
use Rattle.pm_btpage.specs.IndexPages.{Item}
use Rattle.pm_btpage.specs.Stored.{IsLink}
use Rattle.pm_meta.specs.declared.layout.TheConstants.{EXTRA_PAGES}
use Rattle.pm_meta.specs.declared.slots.MetaSlot.TheVariants.{Rows}
use Rattle.pm_pages.specs.Rows.{page_count, number_in, rows_of, row_of}
use Rattle.pm_pages.specs.Trees.{root_of}
use Rattle.pm_pages.specs.Paged.{Paged, AllReadable, SamePartition}
use Rattle.pm_pages.specs.Edits.{EditsPages, HasMeta}
use Rattle.pm_pages.specs.SparePages.{SetsNumber, MetaBecomes}
use Rattle.pm_pages.specs.SoundPages.{PassesAll, CanTake}
use Rattle.pm_pages.specs.StoredPages.{IsStored, KeepsStored}
use Rattle.pm_pages.specs.WellFormed.{IsWellFormed}
use Rattle.pm_pages.proofs.EditedPages.{same_then}
use Rattle.pm_pages.proofs.SpareRoom.{can_take_less}
use Rattle.pm_tree.specs.Indexes.{IsIndex}
use Rattle.pm_tree.specs.Roots.{PutsIndex, PutsRootPages}
use Rattle.pm_free.specs.Placed.{PlacesRow, ChangesRows}
use Rattle.pm_part.specs.RowBytes.{IsRowOf}
use Rattle.pm_part.specs.Runs.{IsPartitionOf}
use Rattle.pm_part.specs.Puts.{MayAddRow}
use Rattle.pm_part.proofs.WellLaidOut.{items_of_cache, laid_of, lists_of}
use Rattle.pm_part.proofs.CacheIndexes.{index_of}
use Rattle.pm_part.proofs.KeptIndexes.{index_placed}
use Rattle.pm_part.proofs.CountedRows.{count_passes}
use Rattle.pm_part.proofs.DroppedRows.{meta_no_data}
use Rattle.pm_part.proofs.ReplacedKeys.{lacks}
use Rattle.pm_part.proofs.RowLinks.{row_linked}
use Rattle.pm_part.proofs.StoredPartitions.{stored_of, some_pages, size_of, can_take, stored_few}
use Rattle.pm_part.proofs.AddedRows.{addition_well_formed}

-- A row was placed, its link put into the index of its cache, and the row count set.
module _ (T : Type 0) (a b c d : Paged) (shape : Shape) (cache rows value : ℕ) (key data_value row : List ℕ) (at_link : Link) (was : Option Link) (t : T) (few : cache < CACHES) (may : MayAddRow shape a rows cache key)
    (meta_a : HasMeta a) (meta_d : HasMeta d) (reads : AllReadable a × AllReadable b × AllReadable c × AllReadable d) (row_is : IsRowOf cache key data_value row)
    (places : ChangesRows T a b 4 1 (λ old new. PlacesRow a.page_size a.part old new row at_link)) (place_passes : KeepsStored a b 1)
    (changes : PutsRootPages T b c cache 17 (IsLink b.part at_link.0))
    (puts : (height : ℕ) (nodes : List ℕ) (items : List Item) → IsIndex b.pages (root_of b.pages cache) height nodes items → PutsIndex b.pages c.pages cache nodes items key at_link.0 was)
    (edits : EditsPages T c d (λ j. j ≡ 0) 0) (sets_value : MetaBecomes c d (λ w n. SetsNumber w n Rows value)) (value_is : value ≡ rows + 1) where
  is : IsPartitionOf shape a
  is = may.partition

  some : 1 ≤ page_count a.pages
  some = some_pages shape a is meta_a

  placed : PlacesRow a.page_size a.part a.pages b.pages row at_link
  placed = places.told t

  some_b : 1 ≤ page_count b.pages
  some_b = omega (arith, some, placed.moves.count)

  spare : CanTake (2 * a.max_rows + EXTRA_PAGES) a (1 + 17)
  spare = can_take shape a is some (1 + 17) (omega arith)

  stored_b : IsStored b
  stored_b = place_passes (2 * a.max_rows + EXTRA_PAGES) (omega arith) (can_take_less (2 * a.max_rows + EXTRA_PAGES) a (1 + 17) 1 (omega arith) spare) (stored_of shape a is)

  linked : IsLink b.part at_link.0
  linked = subst (λ n. IsLink n at_link.0) (sym places.edits.same.part)
      (row_linked a.part b.pages (rows_of a.part a.pages) (row_of at_link row) placed.rows is.part (omega (arith, stored_few b stored_b some_b)) (meta_no_data b reads.1 places.meta))

  stored_c : IsStored c
  stored_c = changes.passes t linked (2 * a.max_rows + EXTRA_PAGES) (omega (arith, places.edits.same.max_rows)) (places.takes t (2 * a.max_rows + EXTRA_PAGES) 17 spare) stored_b

  same : SamePartition a d
  same = same_then a c d (same_then a b c places.edits.same changes.edits.same) edits.same

  sets : MetaBecomes c d (λ w n. SetsNumber w n Rows (number_in a.pages Rows + 1))
  sets = subst (λ n. MetaBecomes c d (λ w m. SetsNumber w m Rows n)) (value_is ∙ ap (λ n. n + 1) (sym may.counted)) sets_value

  some_c : 1 ≤ page_count c.pages
  some_c =
      let ix = index_of shape a cache is.page_size is.max_rows is.well_formed few in
      let put = puts ix.height ix.nodes ix.items (index_placed a b.pages cache ix.height ix.nodes ix.items reads.0 meta_a few ix.index a.page_size a.part row at_link placed) in
      omega (arith, some_b, put.moves.count)

  passes : PassesAll d
  passes = count_passes T c d (number_in a.pages Rows + 1) 0 t edits sets (omega (arith, may.few, may.counted, places.edits.same.max_rows, changes.edits.same.max_rows)) some_c stored_c.all

  pub addition_stays : IsPartitionOf shape d
  addition_stays = record {
    page_size = is.page_size ∙ sym same.page_size;
    max_rows = is.max_rows ∙ sym same.max_rows;
    rows = omega (arith, is.rows, same.max_rows);
    part = omega (arith, is.part, same.part);
    well_formed = subst (λ n. IsWellFormed shape n d.pages) (sym same.part)
        (addition_well_formed shape T a b c d cache key data_value row at_link was 0 t few (subst IsPageSize (sym same.page_size) (size_of a (stored_of shape a is).all some))
        (is.page_size ∙ sym same.page_size) (is.max_rows ∙ sym same.max_rows) same.part (items_of_cache a.pages) (laid_of shape a is.page_size is.max_rows is.well_formed some)
        (lists_of shape a is.page_size is.max_rows is.well_formed) is.well_formed.keys_once placed
        (record { has = record { cache_is = row_is.cache_is; key_is = row_is.key_is }; value_is = row_is.value_is })
        (lacks shape a cache key few is may.lacks) may.mine (omega (arith, may.few, is.max_rows, is.well_formed.keys_once.counted, may.counted))
        (meta_no_data b reads.1 places.meta, meta_no_data c reads.2 changes.meta) (meta_no_data c reads.2 changes.meta, meta_no_data d reads.3 meta_d) puts edits sets passes);
  }
