-- In a well-formed partition there is room for more pages than an operation takes: its trees have no more pages than it has rows, nor
-- has it more data pages.
use Rattle.std.proofs.Common.{◌≡◌, ℕ, zero, suc, ◌+◌, ◌-◌, ◌<◌, ◌≤◌, List, [], ◌∷◌, length, Option, None, Some, refl, sym, ap, subst, ◌∙◌, inl, inr, arith}
use Rattle.std.specs.Prelude.{get_or}
use Rattle.std.proofs.lemmas.Bool.{cases_eq}
use Rattle.pm_types.specs.declared.limits.TheConstants.{CACHES, ROWS_MAX}
use Rattle.pm_types.specs.declared.shape.Shape.{Shape}
use Rattle.pm_types.specs.declared.page_id.PageId.{PageId}
use Rattle.pm_types.specs.PageSizes.{IsPageSize}
use Rattle.pm_types.specs.Ids.{page_id}
use Rattle.pm_types.specs.Fields.{bytes_at}
use Rattle.pm_btpage.specs.IndexPages.{Item}
use Rattle.pm_data.specs.declared.layout.TheConstants.{DATA_KIND}
use Rattle.pm_data.specs.DataPages.{IsStoredPage, count_of, slot_at}
use Rattle.pm_data.specs.DataPages as data_page
use Rattle.pm_data.proofs.RowsByItem.{length-rows_of, get_or-rows_of, row_in_live}
use Rattle.pm_meta.specs.declared.slots.MetaSlot.TheVariants.{Rows}
use Rattle.pm_pages.specs.declared.row.Row.{Row}
use Rattle.pm_pages.specs.Rows.{page_at, page_count, kind_of, rows_from, rows_on, rows_of}
use Rattle.pm_pages.specs.Chains.{times, reuse_chain}
use Rattle.pm_pages.specs.Trees.{root_of}
use Rattle.pm_pages.specs.Paged.{Paged}
use Rattle.pm_pages.specs.SoundPages.{PassesAll}
use Rattle.pm_pages.specs.WellFormed.{IsWellFormed}
use Rattle.pm_pages.proofs.ChainWalks.{stands}
use Rattle.pm_pages.proofs.PassingLooks.{page_there, meta_passes}
use Rattle.pm_pages.proofs.RowsFrom.{rows_on-data}
use Rattle.pm_pages.proofs.SpareSteps.{number_by}
use Rattle.pm_tree.specs.SoundPuts.{HasSparePages}
use Rattle.pm_part.specs.LaidOut.{joined, IsLaidOut, is_data}
use Rattle.pm_part.proofs.SameIndexes.{index_below}
use Rattle.pm_part.proofs.Layouts.{data_one, data_none, in_index}
use Rattle.pm_part.proofs.LaidOutWell.{here_passes, large}
use Rattle.pm_part.proofs.Totals.{total, total_le, total_add, total_one, total_flat, total_times}
use Rattle.pm_part.proofs.TreeSizes.{index_size}
use Rattle.pm_part.proofs.ItemCounts.{items_few}
use Rattle.pm_part.proofs.WellLaidOut.{items_of_cache, laid_of, lists_of}

-- a page with a row among its items has a row
some_from : (id : PageId) (item k : ℕ) (items : List (Option (List ℕ))) (row : List ℕ) → k < length items → get_or items k None ≡ Some row → 1 ≤ length (rows_from id item items)
some_from id item k [] row lt is = absurd (omega (arith, lt))
some_from id item k (Some here ∷ items) row lt is = omega arith
some_from id item zero (None ∷ items) row lt is = absurd (cc is)
some_from id item (suc k) (None ∷ items) row lt is = some_from id (item + 1) k items row (omega (arith, lt)) is

-- a data page that passes its check has a row
stored_row : (id : PageId) (page : List ℕ) → IsStoredPage id page → 1 ≤ length (rows_on id page)
stored_row id page is =
    let last = count_of page - 1 in
    let slot = slot_at page last in
    let live = is.well_made.rows.last is.some in
    subst (λ (rows : List Row). 1 ≤ length rows) (sym (rows_on-data id page is.well_made.head.kind))
    (some_from id 0 last (data_page.rows_of page) (bytes_at page slot.start slot.len) (omega (arith, length-rows_of page, is.some))
    (get_or-rows_of page last None (omega (arith, is.some)) ∙ row_in_live page slot live))

module _ (shape : Shape) (p : Paged) (page_size : shape.page_size ≡ p.page_size) (max_rows : shape.max_rows ≡ p.max_rows) (size : IsPageSize p.page_size)
    (well_formed : IsWellFormed shape p.part p.pages) (some : 1 ≤ page_count p.pages) where
  all : PassesAll p
  all = record { shape = shape; page_size = page_size; max_rows = max_rows; pass = well_formed.all_pass }

  abbrev items : ℕ → List Item
  items = items_of_cache p.pages

  laid : IsLaidOut p.pages items
  laid = laid_of shape p page_size max_rows well_formed some

  abbrev rows : List Row
  rows = rows_of p.part p.pages

  -- the pages of all trees
  nodes_few : length (joined laid.nodes) ≤ length rows
  nodes_few = omega (
    arith,
    total_flat laid.nodes 0 CACHES,
    total_le (λ c. length (laid.nodes c)) (λ c. length (items c)) 0 CACHES (λ c low high.
        index_size p.pages (root_of p.pages c) (laid.heights c) (laid.nodes c) (items c)
        (λ j there. large p all size j (index_below p.pages (root_of p.pages c) (laid.heights c) (laid.nodes c) (items c) (laid.indexes c (omega (arith, high))) j there))
        (laid.indexes c (omega (arith, high)))),
    items_few rows items well_formed.keys_once.once (lists_of shape p page_size max_rows well_formed),
  )

  -- a page of data has a row, and every other page is none of data
  data_row : (j : ℕ) → 1 ≤ j → j < page_count p.pages → is_data p.pages j ≤ length (rows_on (page_id p.part j) (page_at p.pages j))
  data_row zero le lt = absurd (omega (arith, le))
  data_row (suc i) le lt = elim (cases_eq (kind_of (page_at p.pages (suc i))) DATA_KIND) [
    | inr other ↦ omega (arith, data_none p.pages (suc i) other)
    | inl kind ↦ elim (here_passes p all size (suc i) lt).kind [
      | inl meta ↦ absurd (cc (sym kind ∙ meta.well_made.form.kind))
      | inr r ↦ elim r [
        | inl index ↦ absurd (elim index.well_made.head.kind [ inl k ↦ absurd (cc (sym kind ∙ k)) | inr k ↦ absurd (cc (sym kind ∙ k)) ])
        | inr r2 ↦ elim r2 [
          | inl stored ↦ omega (arith, data_one p.pages (suc i) kind, stored_row (page_id p.part (suc i)) (page_at p.pages (suc i)) stored)
          | inr reuse ↦ absurd (cc (sym kind ∙ reuse.well_made.kind))
        ]
      ]
    ]
  ]

  abbrev last : ℕ
  last = page_count p.pages - 1

  data_few : total (is_data p.pages) 1 last ≤ length rows
  unfolding total
  data_few = omega (
    arith,
    total_le (is_data p.pages) (λ j. length (rows_on (page_id p.part j) (page_at p.pages j))) 1 last (λ j low high. data_row j low (omega (arith, high, some))),
    total_flat (λ j. rows_on (page_id p.part j) (page_at p.pages j)) 0 (page_count p.pages),
    whole (page_count p.pages) some,
  )
    where
      whole : (n : ℕ) → 1 ≤ n → total (λ j. length (rows_on (page_id p.part j) (page_at p.pages j))) 1 (n - 1) ≤ total (λ j. length (rows_on (page_id p.part j) (page_at p.pages j))) 0 n
      whole zero le = absurd (omega (arith, le))
      whole (suc n) le = omega (arith, ap (total (λ j. length (rows_on (page_id p.part j) (page_at p.pages j))) 1) (let e : suc n - 1 ≡ n = omega arith in e))

  -- every page stands once
  counted : total (λ j. times j (joined laid.nodes)) 1 last + total (is_data p.pages) 1 last + total (λ j. times j (reuse_chain p.pages)) 1 last ≡ last
  counted = omega (
    arith,
    total_add (λ j. times j (joined laid.nodes)) (is_data p.pages) (λ j. times j (joined laid.nodes) + is_data p.pages j) 1 last (λ j low high. refl),
    total_add (λ j. times j (joined laid.nodes) + is_data p.pages j) (λ j. times j (reuse_chain p.pages)) (λ j. times j (joined laid.nodes) + is_data p.pages j + times j (reuse_chain p.pages)) 1 last (λ j low high. refl),
    total_one (λ j. times j (joined laid.nodes) + is_data p.pages j + times j (reuse_chain p.pages)) 1 last (λ j low high. laid.each j low (omega (arith, high, some))),
  )

  nodes_total : total (λ j. times j (joined laid.nodes)) 1 last ≡ length (joined laid.nodes)
  nodes_total = total_times (joined laid.nodes) 1 last (λ j there. (not_first j there, omega (arith, (in_index p.pages items laid j there).1, some)))
    where
      not_first : (j : ℕ) → 1 ≤ times j (joined laid.nodes) → 1 ≤ j
      not_first zero there = absurd (omega (arith, there, laid.first))
      not_first (suc i) there = omega arith

  reuse_total : total (λ j. times j (reuse_chain p.pages)) 1 last ≡ length (reuse_chain p.pages)
  reuse_total = total_times (reuse_chain p.pages) 1 last (λ j there. (
    stands (λ i. 1 ≤ i) (reuse_chain p.pages) laid.spare.some j there,
    omega (arith, stands (λ i. i < page_count p.pages) (reuse_chain p.pages) laid.spare.below j there, some),
  ))

  pub rows_few : length rows ≤ p.max_rows
  rows_few =
      let meta = page_there p 0 all (omega (arith, some)) in
      omega (arith, well_formed.keys_once.counted, number_by p.pages Rows meta.0 meta.1, (meta_passes p all meta.0 meta.1).stored.counts.rows)

  -- so many pages can be taken
  pub has_spare_pages : (more : ℕ) → more ≤ 255 → p.max_rows ≤ ROWS_MAX → HasSparePages p more
  has_spare_pages more le most = record {
    all = all;
    spare = laid.spare;
    rows = most;
    room = omega (arith, le, counted, nodes_total, reuse_total, nodes_few, data_few, rows_few, some);
  }
