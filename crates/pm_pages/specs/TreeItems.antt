-- Items of trees that were read.
use Rattle.std.specs.Prelude.{◌≡◌, ℕ, List, Some, map}
use Rattle.pm_btpage.specs.IndexPages.{Item}
use Rattle.pm_data.specs.declared.layout.TheConstants.{DATA_KIND}
use Rattle.pm_data.specs.Rows.{row_cache, row_key}
use Rattle.pm_data.specs.DataPages.{row_at}
use Rattle.pm_data.specs.DataPages as data_page
use Rattle.pm_pages.specs.Rows.{kind_of}
use Rattle.pm_pages.specs.declared.well_formed.listing.TreeItem.{TreeItem}

-- an item that was read, as a page has it
abbrev pub as_item : TreeItem → Item
as_item item = record { key = item.key; word = item.word }

abbrev pub as_items : List TreeItem → List Item
as_items items = map as_item items

-- this item of a data page is a row of this key of a cache
pub record HasKey (page : List ℕ) (item cache : ℕ) (key : List ℕ) : Type 0 where
  pub kind : kind_of page ≡ DATA_KIND
  pub bytes : List ℕ
  pub live : row_at (data_page.rows_of page) item ≡ Some bytes
  pub cache_is : row_cache bytes ≡ cache
  pub key_is : row_key bytes ≡ key
