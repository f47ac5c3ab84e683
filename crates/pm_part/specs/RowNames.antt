-- Links that name rows.
use Rattle.std.specs.Prelude.{◌≡◌, ℕ, ◌<◌, List, Some}
use Rattle.pm_types.specs.declared.page_id.Link.{Link}
use Rattle.pm_types.specs.Ids.{page_id, link}
use Rattle.pm_data.specs.declared.layout.TheConstants.{DATA_KIND}
use Rattle.pm_data.specs.Rows.{row_cache, row_key}
use Rattle.pm_data.specs.DataPages.{rows_of, row_at}
use Rattle.pm_pages.specs.Rows.{Partition, page_at, page_count, kind_of}

-- the link names the row of a key of a cache, which stands on a data page of the partition
pub record NamesRow (part : ℕ) (pages : Partition) (at_link : Link) (cache : ℕ) (key : List ℕ) : Type 0 where
  pub at : ℕ
  pub item : ℕ
  pub row : List ℕ
  pub is : at_link ≡ link (page_id part at) item
  pub below : at < page_count pages
  pub kind : kind_of (page_at pages at) ≡ DATA_KIND
  pub live : row_at (rows_of (page_at pages at)) item ≡ Some row
  pub cache_is : row_cache row ≡ cache
  pub key_is : row_key row ≡ key
