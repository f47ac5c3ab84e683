-- A row of a well-formed partition that is replaced by another one of its key leaves a well-formed partition.
use Rattle.std.proofs.Common.{◌≡◌, ℕ, ◌+◌, ◌*◌, ◌<◌, ◌≤◌, List, sym, ap, subst, ◌∙◌, arith}
use Rattle.std.specs.Prelude.{Option, Some}
use Rattle.pm_types.specs.declared.limits.TheConstants.{CACHES}
use Rattle.pm_types.specs.declared.shape.Shape.{Shape}
use Rattle.pm_types.specs.declared.page_id.Link.{Link}
use Rattle.pm_types.specs.PageSizes.{IsPageSize}
use Rattle.pm_types.specs.Ids.{page_id, link}
use Rattle.pm_btpage.specs.IndexPages.{Item}
use Rattle.pm_btpage.specs.Stored.{IsLink}
use Rattle.pm_data.specs.DataPages as data_page
use Rattle.pm_data.specs.DataPages.{row_at}
use Rattle.pm_meta.specs.declared.layout.TheConstants.{EXTRA_PAGES}
use Rattle.pm_pages.specs.declared.row.Row.{Row}
use Rattle.pm_pages.specs.Rows.{page_at, page_count, row_of}
use Rattle.pm_pages.specs.Trees.{root_of}
use Rattle.pm_pages.specs.Paged.{Paged, AllReadable, SamePartition}
use Rattle.pm_pages.specs.Edits.{HasMeta}
use Rattle.pm_pages.specs.SoundPages.{CanTake}
use Rattle.pm_pages.specs.StoredPages.{IsStored, KeepsStored}
use Rattle.pm_pages.specs.WellFormed.{IsWellFormed}
use Rattle.pm_pages.proofs.EditedPages.{same_then}
use Rattle.pm_pages.proofs.SpareRoom.{can_take_less}
use Rattle.pm_tree.specs.Divisions.{PutsPages}
use Rattle.pm_tree.specs.Indexes.{IsIndex}
use Rattle.pm_tree.specs.Roots.{PutsIndex}
use Rattle.pm_free.specs.Placed.{ChangesRows}
use Rattle.pm_part.specs.declared.spots.Spot.{Spot}
use Rattle.pm_part.specs.Spots.{HasRowIn}
use Rattle.pm_part.specs.RowBytes.{IsRowOf}
use Rattle.pm_part.specs.Runs.{IsPartitionOf}
use Rattle.pm_part.specs.Puts.{OverwritesRow}
use Rattle.pm_part.proofs.KeyedRows.{HasKey, HasValue}
use Rattle.pm_part.proofs.NamedRows.{row_named}
use Rattle.pm_part.proofs.DroppedRows.{meta_no_data, few_pages, stands_on}
use Rattle.pm_part.proofs.RowLinks.{row_linked}
use Rattle.pm_part.proofs.StoredPartitions.{stored_of, can_take, stored_few}
use Rattle.pm_part.proofs.ReplacedRows.{ReplacesRow, kept_well_formed, moved_well_formed}

-- the row of a key has the place of the one that it had
module _ (T : Type 0) (a b : Paged) (shape : Shape) (spot : Spot) (cache : ℕ) (key value row : List ℕ) (at_link : Link) (t : T) (is : IsPartitionOf shape a) (meta_a : HasMeta a) (has : HasRowIn a spot cache key) (row_is : IsRowOf cache key value row)
    (changes : ChangesRows T a b 7 1 (λ old new. OverwritesRow a.part old new spot row at_link)) (over_passes : KeepsStored a b 1) where
  changed : OverwritesRow a.part a.pages b.pages spot row at_link
  changed = changes.told t

  some : 1 ≤ page_count a.pages
  some = (let on = stands_on a spot cache key meta_a has in omega (arith, on.0))

  replaces : ReplacesRow a.part a.pages b.pages changed.was (row_of at_link row)
  replaces = record { less = changed.others; before = changed.before; after = changed.now; laid = changed.laid; numbers = changed.numbers }

  key_was : HasKey cache key changed.was
  key_was =
      let on = stands_on a spot cache key meta_a has in
      let live : row_at (data_page.rows_of (page_at a.pages spot.at)) spot.item ≡ Some has.row = ap (λ (page : List ℕ). row_at (data_page.rows_of page) spot.item) on.1 ∙ has.is.live in
      let was = row_named a.part a.pages spot.at spot.item has.row changed.was changed.others is.part (few_pages shape a is) on.0 live changed.before changed.named in
      record { cache_is = ap (λ (r : Row). r.cache) was ∙ has.is.cache_is; key_is = ap (λ (r : Row). r.key) was ∙ has.is.key_is }

  key_now : HasValue cache key value (row_of at_link row)
  key_now = record { has = record { cache_is = row_is.cache_is; key_is = row_is.key_is }; value_is = row_is.value_is }

  spare : CanTake (2 * a.max_rows + EXTRA_PAGES) a (1 + 8)
  spare = can_take shape a is some (1 + 8) (omega arith)

  stored_b : IsStored b
  stored_b = over_passes (2 * a.max_rows + EXTRA_PAGES) (omega arith) (can_take_less (2 * a.max_rows + EXTRA_PAGES) a (1 + 8) 1 (omega arith) spare) (stored_of shape a is)

  size : IsPageSize a.page_size
  size = subst IsPageSize has.size has.is.well_made.size

  -- the link is the same
  pub replacement_kept : at_link ≡ link (page_id a.part spot.at) spot.item → IsPartitionOf shape b
  replacement_kept at_is =
      let same = changes.edits.same in
      record {
        page_size = is.page_size ∙ sym same.page_size;
        max_rows = is.max_rows ∙ sym same.max_rows;
        rows = omega (arith, is.rows, same.max_rows);
        part = omega (arith, is.part, same.part);
        well_formed = subst (λ n. IsWellFormed shape n b.pages) (sym same.part)
            (kept_well_formed shape a b cache key value changed.was (row_of at_link row) some is.page_size is.max_rows is.well_formed replaces key_was key_now
            (ap (λ (l : Link). l.0) (at_is ∙ sym changed.named)) (subst IsPageSize (sym same.page_size) size) (is.page_size ∙ sym same.page_size) (is.max_rows ∙ sym same.max_rows) same.part stored_b.all);
      }

  -- the link is another one, and the index of the key's cache has it
  module _ (c : Paged) (was : List Item → Option Link) (few : cache < CACHES) (meta_c : HasMeta c) (reads : AllReadable b × AllReadable c) (relinks : PutsPages T b c 8 (IsLink b.part at_link.0))
      (puts : (height : ℕ) (nodes : List ℕ) (items : List Item) → IsIndex b.pages (root_of b.pages cache) height nodes items → PutsIndex b.pages c.pages cache nodes items key at_link.0 (was items)) where
    same : SamePartition a c
    same = same_then a b c changes.edits.same relinks.edits.same

    linked : IsLink b.part at_link.0
    linked = subst (λ n. IsLink n at_link.0) (sym changes.edits.same.part)
        (row_linked a.part b.pages changed.others (row_of at_link row) changed.now is.part (omega (arith, stored_few b stored_b (omega (arith, some, changed.count)))) (meta_no_data b reads.0 changes.meta))

    stored_c : IsStored c
    stored_c = relinks.passes t linked (2 * a.max_rows + EXTRA_PAGES) (omega (arith, changes.edits.same.max_rows)) (changes.takes t (2 * a.max_rows + EXTRA_PAGES) 8 spare) stored_b

    pub replacement_moved : IsPartitionOf shape c
    replacement_moved = record {
      page_size = is.page_size ∙ sym same.page_size;
      max_rows = is.max_rows ∙ sym same.max_rows;
      rows = omega (arith, is.rows, same.max_rows);
      part = omega (arith, is.part, same.part);
      well_formed = subst (λ n. IsWellFormed shape n c.pages) (sym same.part)
          (moved_well_formed shape a b cache key value changed.was (row_of at_link row) some is.page_size is.max_rows is.well_formed replaces key_was key_now
          c was few (meta_no_data b reads.0 changes.meta, meta_no_data c reads.1 meta_c) puts
          (subst IsPageSize (sym same.page_size) size) (is.page_size ∙ sym same.page_size) (is.max_rows ∙ sym same.max_rows) same.part stored_c.all);
    }
