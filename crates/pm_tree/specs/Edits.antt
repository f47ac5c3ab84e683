-- Changes of one page of a tree, which is at hand.
use Rattle.std.specs.Prelude.{◌≡◌, ℕ, ◌<◌, ◌≤◌, true, List, [], length, take, drop, Option, None, Some}
use Rattle.pm_types.specs.Keys.{HasKeyLength}
use Rattle.pm_types.specs.declared.page_id.PageId.{PageId}
use Rattle.pm_btpage.specs.IndexPages.{IndexPage, items_of, index_of, with_items, with_item, with_word}
use Rattle.pm_btpage.specs.IndexPages.{with_link, empty_leaf, empty_inner, capacity_of, IsBetween}
use Rattle.pm_btpage.specs.IndexPages.{IsIndexPage}
use Rattle.pm_pages.specs.Paged.{Paged, IsInHand}
use Rattle.pm_tree.specs.declared.edits.Edit.{Edit}
use Rattle.pm_tree.specs.declared.edits.Edit.TheVariants.{Word, Insert, Next, Cut, Tail}

-- page i is at hand and is an index page; this is what it says
pub record IsNode (p : Paged) (i : ℕ) (says : IndexPage) : Type 0 where
  pub page : List ℕ
  pub in_hand : IsInHand p i page
  pub well_made : IsIndexPage page
  pub size : length page ≡ p.page_size
  pub is : index_of page ≡ says

-- a page that says this can take the change: a word's item is there; an item has room and stands in
-- its order; only a leaf has a next leaf; and items of another page of the same kind are written on
-- a page without items
abbrev pub CanEdit : ℕ → IndexPage → List ℕ → Edit → Type 0
CanEdit size page bytes (Word i word) = i < length page.items
CanEdit size page bytes (Insert i word) = (length page.items < capacity_of size) × HasKeyLength bytes
    × IsBetween page.items bytes i
CanEdit size page bytes (Next next) = page.leaf ≡ true
CanEdit size page bytes (Cut at) = at ≤ length page.items
CanEdit size page bytes (Tail at) = IsIndexPage bytes × (page.leaf ≡ (index_of bytes).leaf)
    × (length bytes ≡ size) × (page.items ≡ []) × (at ≤ length (items_of bytes))

-- what the page says then
abbrev pub edited : IndexPage → List ℕ → Edit → IndexPage
edited page bytes (Word i word) = with_items page (with_word page.items i word)
edited page bytes (Insert i word) =
    with_items page (with_item page.items i (record { key = bytes; word = word }))
edited page bytes (Next next) = with_link page next
edited page bytes (Cut at) = with_items page (take at page.items)
edited page bytes (Tail at) = with_items page (drop at (items_of bytes))

-- page i is at hand and can take the change
pub record TakesEdit (p : Paged) (i : ℕ) (bytes : List ℕ) (edit : Edit) : Type 0 where
  pub some : 1 ≤ i
  pub page : List ℕ
  pub in_hand : IsInHand p i page
  pub well_made : IsIndexPage page
  pub size : length page ≡ p.page_size
  pub fits : CanEdit (length page) (index_of page) bytes edit

-- an index page took the change
pub record EditsNode (was : List ℕ) (bytes : List ℕ) (edit : Edit) (now : List ℕ) : Type 0 where
  pub well_made : IsIndexPage now
  pub size : length now ≡ length was
  pub says : index_of now ≡ edited (index_of was) bytes edit

-- page i took the change
pub record EditsNodeAt (old new : Paged) (i : ℕ) (bytes : List ℕ) (edit : Edit) : Type 0 where
  pub was : List ℕ
  pub now : List ℕ
  pub before : old.pages i ≡ Some was
  pub after : new.pages i ≡ Some now
  pub edits : EditsNode was bytes edit now

-- a page without items: a leaf without a next one, or an inner page with this first child
abbrev pub blank : PageId → Option PageId → IndexPage
blank id None = empty_leaf id
blank id (Some child) = empty_inner id child
