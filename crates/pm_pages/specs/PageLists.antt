-- Pages in a list.
use Rattle.std.specs.Prelude.{ℕ, zero, suc, ◌<◌, List, IfSome, IsSomeAnd, slice_get, length, [], ◌⊎◌, ◌≡◌}
use Rattle.std.specs.Option.{option_map}
use Rattle.pm_types.specs.declared.page.Page.{Page}
use Rattle.pm_types.specs.PageSizes.{IsPageSize}
use Rattle.pm_btpage.specs.declared.layout.TheConstants.{LEAF_KIND, INNER_KIND}
use Rattle.pm_btpage.specs.IndexPages.{IsIndexPage}
use Rattle.pm_meta.specs.declared.layout.TheConstants.{REUSE_KIND}
use Rattle.pm_data.specs.declared.layout.TheConstants.{DATA_KIND}
use Rattle.pm_data.specs.DataPages.{IsDataPage}
use Rattle.pm_meta.specs.MetaPages.{IsMetaPage, IsReusePage}
use Rattle.pm_pages.specs.Rows.{Partition, page_count, kind_of}

-- the bytes of each page, by index
abbrev pub pages_in : List Page → Partition
pages_in pages i = option_map (λ (page : Page). page.bytes.items) (slice_get pages i)

-- a page that reads as what it says that it is
pub record IsReadable (page : List ℕ) : Type 0 where
  pub size : IsPageSize (length page)
  pub data_page : kind_of page ≡ DATA_KIND → IsDataPage page
  pub leaf : kind_of page ≡ LEAF_KIND → IsIndexPage page
  pub inner : kind_of page ≡ INNER_KIND → IsIndexPage page
  pub reuse : kind_of page ≡ REUSE_KIND → IsReusePage page

-- a page that isn't there, or reads as what it says that it is
abbrev pub MayRead : List ℕ → Type 0
MayRead page = (page ≡ []) ⊎ IsReadable page

-- the first page is a meta page if it is there, and each page below the page count is there and
-- reads as what it says
pub record AreReadable (pages : Partition) : Type 0 where
  pub meta : IfSome (pages 0) IsMetaPage
  pub each : (i : ℕ) → i < page_count pages → IsSomeAnd (pages i) IsReadable

-- as page i of its partition the page reads as what it says: the first is a meta page
abbrev pub ReadsAt : ℕ → List ℕ → Type 0
ReadsAt zero page = IsMetaPage page
ReadsAt (suc i) page = IsReadable page
