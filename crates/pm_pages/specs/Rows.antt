-- The pages of a partition, and its rows.
use Rattle.std.specs.Prelude.{ℕ, ◌+◌, List, [], ◌∷◌, Option, None, Some, if◌then◌else◌, ◌==◌, nat_lt}
use Rattle.std.specs.Prelude.{slice_index}
use Rattle.std.specs.List.{flat_map, range_with_len}
use Rattle.pm_types.specs.declared.page_id.PageId.{PageId}
use Rattle.pm_types.specs.declared.page_id.Link.{Link}
use Rattle.pm_types.specs.Ids.{page_id, link}
use Rattle.pm_types.specs.declared.head.TheConstants.{KIND_AT}
use Rattle.pm_data.specs.declared.layout.TheConstants.{DATA_KIND}
use Rattle.pm_data.specs.Rows.{row_cache, row_key, row_value}
use Rattle.pm_data.specs.DataPages as data_page
use Rattle.pm_meta.specs.declared.slots.MetaSlot.{MetaSlot}
use Rattle.pm_meta.specs.declared.slots.MetaSlot.TheVariants.{Pages}
use Rattle.pm_meta.specs.MetaPages.{field_of}
use Rattle.pm_pages.specs.declared.row.Row.{Row}

-- the pages of a partition by index
abbrev pub Partition : Type 0
Partition = ℕ → Option (List ℕ)

-- the bytes of a page, none where it isn't there
abbrev pub bytes_of : Option (List ℕ) → List ℕ
bytes_of None = []
bytes_of (Some page) = page

-- a number of a meta page, 0 where there is no meta page
abbrev pub number_of : Option (List ℕ) → MetaSlot → ℕ
number_of None slot = 0
number_of (Some meta) slot = field_of meta slot

-- a number of the partition's meta page
abbrev pub number_in : Partition → MetaSlot → ℕ
number_in pages slot = number_of (pages 0) slot

-- how many pages the partition has: as its meta page says, and none without a meta page
abbrev pub page_count : Partition → ℕ
page_count pages = number_in pages Pages

-- the bytes of page i, none where the partition has no such page
abbrev pub page_at : Partition → ℕ → List ℕ
page_at pages i = if nat_lt i (page_count pages) then bytes_of (pages i) else []

-- the kind of a page
abbrev pub kind_of : List ℕ → ℕ
kind_of page = slice_index page KIND_AT

-- the row with this link that these bytes are
abbrev pub row_of : Link → List ℕ → Row
row_of at row = record { cache = row_cache row; key = row_key row; value = row_value row; link = at }

-- the rows among the items of a page, which are numbered from `item` on
abbrev pub rows_from : PageId → ℕ → List (Option (List ℕ)) → List Row
rows_from id item [] = []
rows_from id item (None ∷ items) = rows_from id (item + 1) items
rows_from id item (Some row ∷ items) = row_of (link id item) row ∷ rows_from id (item + 1) items

-- the rows of a page by item: a page has rows if it is a data page
abbrev pub rows_on : PageId → List ℕ → List Row
rows_on id page = if kind_of page == DATA_KIND then rows_from id 0 (data_page.rows_of page) else []

-- the rows of the partition by page and item
abbrev pub rows_of : ℕ → Partition → List Row
rows_of part pages = flat_map (λ i. rows_on (page_id part i) (page_at pages i))
    (range_with_len 0 (page_count pages))
