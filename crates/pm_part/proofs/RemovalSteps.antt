-- A removal from a well-formed partition leaves one.
use Rattle.std.proofs.Common.{◌≡◌, ℕ, ◌-◌, ◌<◌, ◌≤◌, List, sym, ap, subst, ◌∙◌, arith}
use Rattle.std.specs.Prelude.{Option, Some}
use Rattle.pm_types.specs.declared.limits.TheConstants.{CACHES, ROWS_MAX}
use Rattle.pm_types.specs.declared.shape.Shape.{Shape}
use Rattle.pm_types.specs.declared.page_id.Link.{Link}
use Rattle.pm_types.specs.Ids.{page_id, link}
use Rattle.pm_types.specs.PageSizes.{IsPageSize}
use Rattle.pm_btpage.specs.IndexPages.{Item}
use Rattle.pm_data.specs.DataPages as data_page
use Rattle.pm_data.specs.DataPages.{row_at}
use Rattle.pm_meta.specs.declared.slots.MetaSlot.TheVariants.{Rows}
use Rattle.pm_pages.specs.Rows.{page_at, page_count, number_in, rows_of, row_of}
use Rattle.pm_pages.specs.Trees.{root_of}
use Rattle.pm_pages.specs.Paged.{Paged, AllReadable, SamePartition}
use Rattle.pm_pages.specs.Edits.{EditsPages, HasMeta, IsNumberIn}
use Rattle.pm_pages.specs.SparePages.{SetsNumber, MetaBecomes}
use Rattle.pm_pages.specs.SoundPages.{PassesAll}
use Rattle.pm_pages.specs.StoredPages.{IsStored}
use Rattle.pm_pages.proofs.ToldPages.{number_told}
use Rattle.pm_pages.proofs.PassingLooks.{page_there, meta_passes}
use Rattle.pm_pages.proofs.SpareSteps.{number_by}
use Rattle.pm_pages.proofs.EditedPages.{same_then}
use Rattle.pm_pages.specs.WellFormed.{IsWellFormed}
use Rattle.pm_tree.specs.Indexes.{IsIndex}
use Rattle.pm_tree_del.specs.Roots.{RemovesIndex}
use Rattle.pm_free.specs.Placed.{TakesRow}
use Rattle.pm_part.specs.declared.spots.Spot.{Spot}
use Rattle.pm_part.specs.Spots.{HasRowIn}
use Rattle.pm_part.specs.Runs.{IsPartitionOf}
use Rattle.pm_part.proofs.KeyedRows.{HasKey}
use Rattle.pm_part.proofs.NamedRows.{one_named}
use Rattle.pm_part.proofs.DroppedRows.{meta_no_data, few_pages, stands_on}
use Rattle.pm_part.proofs.CacheIndexes.{index_of}
use Rattle.pm_part.proofs.KeptIndexes.{index_taken}
use Rattle.pm_part.proofs.RemovedRows.{removal_well_formed}
use Rattle.pm_part.proofs.CountedRows.{count_passes}

-- the row that was taken out is that of the key
taken_key : (shape : Shape) (b d : Paged) (spot : Spot) (cache : ℕ) (key : List ℕ) → IsPartitionOf shape b → HasMeta b → (has : HasRowIn b spot cache key)
    → (takes : TakesRow b.part b.pages d.pages (link (page_id b.part spot.at) spot.item)) → HasKey cache key (row_of (link (page_id b.part spot.at) spot.item) takes.row)
taken_key shape b d spot cache key is meta has takes =
    let on = stands_on b spot cache key meta has in
    let live : row_at (data_page.rows_of (page_at b.pages spot.at)) spot.item ≡ Some has.row = ap (λ (page : List ℕ). row_at (data_page.rows_of page) spot.item) on.1 ∙ has.is.live in
    let same = one_named b.part b.pages spot.at spot.item has.row takes.row (rows_of b.part d.pages) is.part (few_pages shape b is) on.0 live takes.rows in
    record { cache_is = (λ k. (same k).cache) ∙ has.is.cache_is; key_is = (λ k. (same k).key) ∙ has.is.key_is }

pub removal_stays : (T : Type 0) (b d e f : Paged) (shape : Shape) (spot : Spot) (cache other rows value : ℕ) (key : List ℕ) (at_link : Link) (was : Option Link) → T → cache < CACHES → IsPartitionOf shape b → HasMeta b → HasMeta d → HasMeta e → HasMeta f → AllReadable b → AllReadable d → AllReadable e → AllReadable f
    → SamePartition b d → SamePartition d e → SamePartition e f → HasRowIn b spot cache key → at_link ≡ link (page_id b.part spot.at) spot.item → TakesRow b.part b.pages d.pages at_link
    → ((height : ℕ) (nodes : List ℕ) (items : List Item) → IsIndex d.pages (root_of d.pages other) height nodes items → RemovesIndex d.pages e.pages other nodes items key was)
    → EditsPages T e f (λ j. j ≡ 0) 0 → MetaBecomes e f (λ w n. SetsNumber w n Rows value) → IsNumberIn b Rows rows → other ≡ cache → value ≡ rows - 1 → (IsStored b → IsStored d)
    → (PassesAll d → d.max_rows ≤ ROWS_MAX → (height : ℕ) (nodes : List ℕ) (items : List Item) → IsIndex d.pages (root_of d.pages other) height nodes items → PassesAll e) → IsPartitionOf shape f
removal_stays T b d e f shape spot cache other rows value key at_link was t few is meta_b meta_d meta_e meta_f reads_b reads_d reads_e reads_f same_d same_e same_f has at_is takes removes_other edits sets_value number other_is value_is stores_d passes_other =
    let removes = subst (λ n. (height : ℕ) (nodes : List ℕ) (items : List Item) → IsIndex d.pages (root_of d.pages n) height nodes items → RemovesIndex d.pages e.pages n nodes items key was) other_is removes_other in
    let passes_e = subst (λ n. PassesAll d → d.max_rows ≤ ROWS_MAX → (height : ℕ) (nodes : List ℕ) (items : List Item) → IsIndex d.pages (root_of d.pages n) height nodes items → PassesAll e) other_is passes_other in
    let sets = subst (λ n. MetaBecomes e f (λ w m. SetsNumber w m Rows n)) value_is sets_value in
    let same : SamePartition b f = same_then b e f (same_then b d e same_d same_e) same_f in
    let takes' = subst (TakesRow b.part b.pages d.pages) at_is takes in
    let on = stands_on b spot cache key meta_b has in
    let counted : number_in b.pages Rows ≡ rows = number_told b Rows rows number in
    let size : IsPageSize f.page_size = subst IsPageSize (has.size ∙ sym same.page_size) has.is.well_made.size in
    let size_f : shape.page_size ≡ f.page_size = is.page_size ∙ sym same.page_size in
    let most_f : shape.max_rows ≡ f.max_rows = is.max_rows ∙ sym same.max_rows in
    let few_rows : rows - 1 ≤ e.max_rows = omega (arith, meta_rows, counted, same_d.max_rows, same_e.max_rows) in
    let all : PassesAll b = record { shape = shape; page_size = is.page_size; max_rows = is.max_rows; pass = is.well_formed.all_pass } in
    let stored = stores_d (record { all = all; rows = is.rows; part = is.part }) in
    let ix = index_of shape b cache is.page_size is.max_rows is.well_formed few in
    let index_d = index_taken b d.pages cache ix.height ix.nodes ix.items reads_b meta_b few ix.index b.part at_link takes in
    let removed = removes ix.height ix.nodes ix.items index_d in
    let passes : PassesAll e = passes_e stored.all stored.rows ix.height ix.nodes ix.items index_d in
    let some_e : 1 ≤ page_count e.pages = omega (arith, on.0, takes.moves.count, removed.gives.count) in
    record {
      page_size = size_f;
      max_rows = most_f;
      rows = omega (arith, is.rows, same.max_rows);
      part = omega (arith, is.part, same.part);
      well_formed = subst (λ n. IsWellFormed shape n f.pages) (sym same.part)
          (removal_well_formed shape T b d e f cache key (link (page_id b.part spot.at) spot.item) was 0 t few size (is.page_size, size_f) (is.max_rows, most_f) same_d.part (same_e.part ∙ same_d.part) same.part
          (omega (arith, on.0)) is.well_formed takes' (taken_key shape b d spot cache key is meta_b has takes')
          (meta_no_data d reads_d meta_d, meta_no_data e reads_e meta_e) (meta_no_data e reads_e meta_e, meta_no_data f reads_f meta_f) removes edits
          (subst (λ n. MetaBecomes e f (λ w m. SetsNumber w m Rows (n - 1))) (sym counted) sets)
          (count_passes T e f (rows - 1) 0 t edits sets few_rows some_e passes));
    }
  where
    meta_rows : number_in b.pages Rows ≤ b.max_rows
    meta_rows =
        let all : PassesAll b = record { shape = shape; page_size = is.page_size; max_rows = is.max_rows; pass = is.well_formed.all_pass } in
        let on = stands_on b spot cache key meta_b has in
        let meta = page_there b 0 all (omega (arith, on.0)) in
        omega (arith, number_by b.pages Rows meta.0 meta.1, (meta_passes b all meta.0 meta.1).stored.counts.rows)
