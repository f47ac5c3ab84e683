-- Pages that are copied, changed as copies, and written back.
use Rattle.std.specs.Prelude.{◌≡◌, ℕ, ◌≤◌, List, length}
use Rattle.pm_types.specs.Pages.{SameOutside}
use Rattle.pm_types.specs.Spans.{Coverage, Covers}
use Rattle.pm_btpage.specs.IndexPages.{IsIndexPage}
use Rattle.pm_pages.specs.PageLists.{IsReadable}
use Rattle.pm_pages.specs.Paged.{Paged, IsInHand}

-- page i is at hand, and these are its bytes
pub record IsCopyOf (p : Paged) (i : ℕ) (bytes : List ℕ) : Type 0 where
  pub in_hand : IsInHand p i bytes
  pub size : length bytes ≡ p.page_size
  pub readable : IsReadable bytes

-- page i is at hand, and can have these bytes of an index page in place of its own, which differ where the
-- patch says
pub record TakesBytes (p : Paged) (i : ℕ) (bytes : List ℕ) (patch : Coverage) : Type 0 where
  pub some : 1 ≤ i
  pub was : List ℕ
  pub in_hand : IsInHand p i was
  pub well_made : IsIndexPage bytes
  pub size : length bytes ≡ p.page_size
  pub patch_size : patch.page_size ≡ p.page_size
  pub outside : SameOutside (Covers patch) was bytes
