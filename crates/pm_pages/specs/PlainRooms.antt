-- What plain pages keep in order, and the room that they have for pages that may be made until the
-- next `ready`.
use Rattle.std.specs.Prelude.{◌≡◌, ℕ, ◌+◌, ◌^◌, ◌<◌, ◌≤◌, IsTrue, IsSome, List, All, length, replicate}
use Rattle.pm_types.specs.declared.limits.TheConstants.{OP_PAGES}
use Rattle.pm_types.specs.PageSizes.{IsPageSize}
use Rattle.pm_types.specs.declared.page.Page.{Page}
use Rattle.pm_pages.specs.declared.asked.Asked.{Asked}
use Rattle.pm_pages.specs.Asked.{entry_of, is_lent_in, HavePatchesFor}

-- a page of zeros
abbrev pub AreZeros : ℕ → Page → Type 0
AreZeros size page = page.bytes.items ≡ replicate size 0

-- a page of this size
abbrev pub IsOfSize : ℕ → Page → Type 0
IsOfSize size page = length page.bytes.items ≡ size

-- the pages have the store's page size, and each has an index of 32 bits; kept rooms are zeros; only pages that
-- are there were asked for, not too many; and each patch is one of a page of this size
pub record IsOrdered (size : ℕ) (pages rooms : List Page) (asked : List Asked) (asked_room : ℕ) : Type 0 where
  pub is_size : IsPageSize size
  pub sized : All (IsOfSize size) pages
  pub indexed : length pages ≤ 2 ^ 32
  pub zeros : All (AreZeros size) rooms
  pub there : (i : ℕ) → IsSome (entry_of asked i) → i < length pages
  pub few : length asked ≤ OP_PAGES
  pub room : OP_PAGES ≤ asked_room
  pub patches : HavePatchesFor size asked

-- of the pages asked for none was lent
abbrev pub NoneIsLent : List Asked → Type 0
NoneIsLent asked = (i : ℕ) → IsTrue (is_lent_in (entry_of asked i)) → ⊥

-- so many pages of zeros, and so much room for pages, as pages may still be asked for
pub record HasRooms (pages rooms asked pages_room : ℕ) : Type 0 where
  pub zeros : OP_PAGES ≤ rooms + asked
  pub space : pages + OP_PAGES ≤ pages_room + asked

-- there is room for each page that may still be asked for, and for `OP_PAGES` as long as none was lent
pub record AreReady (size : ℕ) (pages rooms : List Page) (asked : List Asked)
    (pages_room asked_room : ℕ) : Type 0 where
  pub ordered : IsOrdered size pages rooms asked asked_room
  pub enough : HasRooms (length pages) (length rooms) (length asked) pages_room
  pub idle : NoneIsLent asked → HasRooms (length pages) (length rooms) 0 pages_room
