-- A meta page, which is the first of its partition.
--
--   offset  size  field
--        0     8  the page's name
--        8     1  the kind, which is 1
--        9    23  zero
--       32    64  the indexes of the sixteen roots, four bytes each
--       96    64  the indexes of the first pages of the sixteen buckets
--      160     4  the index of the first page of the reuse chain
--      164     4  the page count
--      168     4  the row count
--      172        zero to the end
--
-- A reuse page.
--
--   offset  size  field
--        0     8  the page's name
--        8     1  the kind, which is 5
--        9     7  zero
--       16     4  the index of the next page in the reuse chain
--       20        zero to the end
use Rattle.std.specs.Prelude.{◌≡◌, ℕ, ◌+◌, ◌*◌, ◌<◌, ◌≤◌, List, length, slice_index}
use Rattle.pm_types.specs.PageSizes.{IsPageSize}
use Rattle.pm_types.specs.declared.limits.TheConstants.{CACHES}
use Rattle.pm_types.specs.declared.page_id.PageId.{PageId}
use Rattle.pm_types.specs.Fields.{u32_at, u64_at, AreZero}
use Rattle.pm_types.specs.declared.head.TheConstants.{KIND_AT}
use Rattle.pm_meta.specs.declared.layout.TheConstants.{META_KIND, REUSE_KIND, FIELDS_AT, HEADS_AT}
use Rattle.pm_meta.specs.declared.layout.TheConstants.{REUSE_AT, PAGES_AT, ROWS_AT, FIELDS_END}
use Rattle.pm_meta.specs.declared.layout.TheConstants.{BUCKETS, NEXT_AT, REUSE_END, EXTRA_PAGES}
use Rattle.pm_meta.specs.declared.slots.MetaSlot.{MetaSlot}
use Rattle.pm_meta.specs.declared.slots.MetaSlot.TheVariants.{Root, Bucket, Reuse, Pages, Rows}

-- there is such a slot
abbrev pub IsSlot : MetaSlot → Type 0
IsSlot (Root cache) = cache < CACHES
IsSlot (Bucket bucket) = bucket < BUCKETS
IsSlot Reuse = Unit {0}
IsSlot Pages = Unit {0}
IsSlot Rows = Unit {0}

-- the number in this slot is the index of a page
abbrev pub IsPageSlot : MetaSlot → Type 0
IsPageSlot (Root cache) = cache < CACHES
IsPageSlot (Bucket bucket) = bucket < BUCKETS
IsPageSlot Reuse = Unit {0}
IsPageSlot Pages = ⊥
IsPageSlot Rows = ⊥

-- where the number of a slot stands
abbrev pub offset_of : MetaSlot → ℕ
offset_of (Root cache) = FIELDS_AT + 4 * cache
offset_of (Bucket bucket) = HEADS_AT + 4 * bucket
offset_of Reuse = REUSE_AT
offset_of Pages = PAGES_AT
offset_of Rows = ROWS_AT

-- the number in a slot
abbrev pub field_of : List ℕ → MetaSlot → ℕ
field_of page slot = u32_at page (offset_of slot)

-- the kind, and the bytes that are zero
pub record HasForm (page : List ℕ) : Type 0 where
  pub kind : slice_index page KIND_AT ≡ META_KIND
  pub before : AreZero page 9 FIELDS_AT
  pub after : AreZero page FIELDS_END (length page)

-- the page count and the row count are within their limits
pub record HasCounts (max_rows : ℕ) (page : List ℕ) : Type 0 where
  pub some : 1 ≤ field_of page Pages
  pub pages : field_of page Pages ≤ 2 * max_rows + EXTRA_PAGES
  pub rows : field_of page Rows ≤ max_rows

-- each root and each head of a chain is below this page count
abbrev pub AllBelow : ℕ → List ℕ → Type 0
AllBelow pages page = (slot : MetaSlot) → IsPageSlot slot → field_of page slot < pages

-- the number may stand in this slot of a meta page: an index is below the page count, no index that
-- is there is at a new page count or above it, and no count is past its limit
abbrev pub IsInBounds : ℕ → List ℕ → MetaSlot → ℕ → Type 0
IsInBounds max_rows page (Root cache) index = index < field_of page Pages
IsInBounds max_rows page (Bucket bucket) index = index < field_of page Pages
IsInBounds max_rows page Reuse index = index < field_of page Pages
IsInBounds max_rows page Pages pages = (1 ≤ pages) × (pages ≤ 2 * max_rows + EXTRA_PAGES) × AllBelow pages page
IsInBounds max_rows page Rows rows = rows ≤ max_rows

-- a meta page
pub record IsMetaPage (page : List ℕ) : Type 0 where
  pub size : IsPageSize (length page)
  pub form : HasForm page

-- a meta page as it may stand in its file: under its own name, and with numbers within their limits
pub record IsStoredMeta (id : PageId) (max_rows : ℕ) (page : List ℕ) : Type 0 where
  pub own : u64_at page 0 ≡ id.0
  pub well_made : IsMetaPage page
  pub counts : HasCounts max_rows page
  pub below : AllBelow (field_of page Pages) page

-- the index of the next page in the reuse chain
abbrev pub next_of : List ℕ → ℕ
next_of page = u32_at page NEXT_AT

-- a reuse page
pub record IsReusePage (page : List ℕ) : Type 0 where
  pub size : IsPageSize (length page)
  pub kind : slice_index page KIND_AT ≡ REUSE_KIND
  pub before : AreZero page 9 NEXT_AT
  pub after : AreZero page REUSE_END (length page)

-- a reuse page as it may stand in its file: under its own name
pub record IsStoredReuse (id : PageId) (page : List ℕ) : Type 0 where
  pub own : u64_at page 0 ≡ id.0
  pub well_made : IsReusePage page
