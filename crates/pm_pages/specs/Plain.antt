-- What contracts see of plain pages.
use Rattle.std.specs.Prelude.{Vec, ◌≡◌, ℕ, ◌-◌, ◌<◌, ◌≤◌, true, List, Option, None, Some, IsSomeAnd, length}
use Rattle.std.specs.Prelude.{slice_get}
use Rattle.std.specs.Global.{Global}
use Rattle.std.specs.Vec.{vec_capacity, with_item, with_items}
use Rattle.pm_types.specs.declared.limits.TheConstants.{OP_PAGES}
use Rattle.pm_types.specs.declared.page.Page.{Page}
use Rattle.pm_pages.specs.declared.asked.Asked.{Asked}
use Rattle.pm_pages.specs.declared.plain.PlainPages.{PlainPages}
use Rattle.pm_pages.specs.Asked.{entry_of, is_asked, is_lent_in, patch_of, MakesEntry}
use Rattle.pm_pages.specs.PageLists.{pages_in}
use Rattle.pm_pages.specs.Paged.{Paged, NoneLent, SamePartition}
use Rattle.pm_pages.specs.PlainRooms.{IsOrdered, AreReady}

-- what plain pages are made of
pub record Shown : Type 0 where
  pub page_size : ℕ
  pub max_rows : ℕ
  pub part : ℕ
  pub pages : List Page
  pub asked : List Asked

abbrev pub shown : PlainPages → Shown
shown p = record {
  page_size = p.shape.page_size;
  max_rows = p.shape.max_rows;
  part = p.part;
  pages = p.pages.items;
  asked = p.asked.items;
}

-- how many pages there are
abbrev pub plain_count : PlainPages → ℕ
plain_count p = length p.pages.items

-- what contracts see of these: every page is at hand
abbrev pub paged : Shown → Paged
paged s = record {
  page_size = s.page_size;
  max_rows = s.max_rows;
  part = s.part;
  pages = pages_in s.pages;
  known = λ i. true;
  asked = λ i. is_asked (entry_of s.asked i);
  spare = OP_PAGES - length s.asked;
  lent = λ i. is_lent_in (entry_of s.asked i);
  patch = λ i. patch_of (entry_of s.asked i);
  faults = 0;
}

-- what contracts see of plain pages
abbrev pub plain_seen : PlainPages → Paged
plain_seen p = paged (shown p)

-- plain pages, made ready or not
abbrev pub ArePlain : PlainPages → Type 0
ArePlain p = IsOrdered p.shape.page_size p.pages.items p.rooms.items p.asked.items (vec_capacity p.asked)

-- plain pages of which the last `ready` answered Ok
abbrev pub ArePlainReady : PlainPages → Type 0
ArePlainReady p = AreReady p.shape.page_size p.pages.items p.rooms.items p.asked.items
    (vec_capacity p.pages) (vec_capacity p.asked)

-- page i was made anew since `ready`: it was lent, and its patch is the whole page
abbrev pub IsMade : PlainPages → ℕ → Type 0
IsMade p i = IsSomeAnd (entry_of p.asked.items i) (MakesEntry p.shape.page_size)

-- What no call changes. No page goes, and one that comes was made: its patch is the whole page, and stays so.
pub record KeepsPlain (p q : PlainPages) : Type 0 where
  pub shape : q.shape ≡ p.shape
  pub part : q.part ≡ p.part
  pub ready : ArePlainReady p → ArePlainReady q
  pub stay : plain_count p ≤ plain_count q
  pub come : (i : ℕ) → plain_count p ≤ i → i < plain_count q → IsMade q i
  pub made : (i : ℕ) → IsMade p i → IsMade q i

-- a page with these bytes
abbrev pub refilled : Page → List ℕ → Page
refilled page bytes = record { bytes = with_items page.bytes bytes }

-- the pages, with these bytes as one that is there
abbrev pub pages_with : Vec Page Global → ℕ → Option Page → List ℕ → Vec Page Global
pages_with pages i None bytes = pages
pages_with pages i (Some page) bytes = with_item pages i (refilled page bytes)

abbrev pub plain_written : PlainPages → ℕ → List ℕ → PlainPages
plain_written p i bytes = record p { pages = pages_with p.pages i (slice_get p.pages.items i) bytes }

-- plain pages were made ready: the pages are as they were, and none was asked for or lent since
pub record MakesReady (old new : Paged) : Type 0 where
  pub pages : (j : ℕ) → new.pages j ≡ old.pages j
  pub spare : new.spare ≡ OP_PAGES
  pub none_lent : NoneLent new
  pub no_patch : (i : ℕ) → new.patch i ≡ None
  pub same : SamePartition old new
