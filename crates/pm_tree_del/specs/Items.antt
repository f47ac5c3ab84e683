-- An item taken out of a page.
use Rattle.std.specs.Prelude.{◌≡◌, ℕ, ◌/◌, ◌<◌, ◌≤◌, ◌↔◌, Bool, List, Some, IsTrue, length}
use Rattle.pm_btpage.specs.IndexPages.{items_of, index_of, with_items, without_item, capacity_of, IsIndexPage}
use Rattle.pm_pages.specs.Paged.{Paged, IsInHand}

-- page i is at hand, and is an index page with such an item
pub record HasItemAt (p : Paged) (at i : ℕ) : Type 0 where
  pub some : 1 ≤ at
  pub page : List ℕ
  pub in_hand : IsInHand p at page
  pub well_made : IsIndexPage page
  pub size : length page ≡ p.page_size
  pub item : i < length (items_of page)

-- the page has that item no more; `few` tells whether it has less than half of what it has room for
pub record TakesOut (was now : List ℕ) (i : ℕ) (few : Bool) : Type 0 where
  pub well_made : IsIndexPage now
  pub size : length now ≡ length was
  pub says : index_of now ≡ with_items (index_of was) (without_item (items_of was) i)
  pub few_is : IsTrue few ↔ (length (items_of now) < capacity_of (length now) / 2)

pub record TakesOutAt (old new : Paged) (at i : ℕ) (few : Bool) : Type 0 where
  pub was : List ℕ
  pub now : List ℕ
  pub before : old.pages at ≡ Some was
  pub after : new.pages at ≡ Some now
  pub takes : TakesOut was now i few
