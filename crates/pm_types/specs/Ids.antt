-- Names of pages and rows. All numbers are unsigned.
--
--     bits  field
--     0-31  the page's index in its partition
--    32-47  the partition
--    48-55  the flag, which is 1
--    56-63  in a page's name zero, in a row's name the number of its item
use Rattle.std.specs.Prelude.{ℕ, ◌+◌, ◌*◌, ◌/◌, ◌%◌, ◌^◌}
use Rattle.pm_types.specs.declared.page_id.PageId.{PageId}
use Rattle.pm_types.specs.declared.page_id.Link.{Link}

-- the name of the page with this index
abbrev pub page_id : ℕ → ℕ → PageId
page_id part index = record { 0 = 2 ^ 48 + part * 2 ^ 32 + index }

-- the partition of a page
abbrev pub part_of_id : PageId → ℕ
part_of_id page = page.0 / 2 ^ 32 % 2 ^ 16

-- a page's index in its partition
abbrev pub index_of_id : PageId → ℕ
index_of_id page = page.0 % 2 ^ 32

-- the name of the row that is this item of a page
abbrev pub link : PageId → ℕ → Link
link page item = record { 0 = item * 2 ^ 56 + page.0 % 2 ^ 56 }

-- the page of a row
abbrev pub page_of_link : Link → PageId
page_of_link row = record { 0 = row.0 % 2 ^ 56 }

-- the number of a row's item in its page
abbrev pub item_of_link : Link → ℕ
item_of_link row = row.0 / 2 ^ 56
