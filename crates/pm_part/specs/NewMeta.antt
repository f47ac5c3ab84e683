-- A meta page that was made: of a partition with no other page, and without rows.
use Rattle.std.specs.Prelude.{◌≡◌, ◌≢◌, ℕ, List, Some, length}
use Rattle.pm_types.specs.declared.page_id.PageId.{PageId}
use Rattle.pm_types.specs.Ids.{page_id}
use Rattle.pm_meta.specs.declared.slots.MetaSlot.{MetaSlot}
use Rattle.pm_meta.specs.declared.slots.MetaSlot.TheVariants.{Pages}
use Rattle.pm_meta.specs.MetaPages.{field_of, IsSlot, IsStoredMeta}
use Rattle.pm_pages.specs.Paged.{Paged}

-- a meta page of this name, which counts itself alone
pub record IsNewMeta (id : PageId) (page : List ℕ) : Type 0 where
  pub stored : (max_rows : ℕ) → IsStoredMeta id max_rows page
  pub pages : field_of page Pages ≡ 1
  pub others : (slot : MetaSlot) → IsSlot slot → slot ≢ Pages → field_of page slot ≡ 0

-- the first page is such a meta page, under its own name
pub record HasNewMeta (p : Paged) : Type 0 where
  pub page : List ℕ
  pub here : p.pages 0 ≡ Some page
  pub size : length page ≡ p.page_size
  pub is : IsNewMeta (page_id p.part 0) page
