-- Where a key stands in a page of a tree, or would.
use Rattle.std.specs.Prelude.{◌≡◌, ℕ, ◌<◌, ◌≤◌, ◌⊎◌, List, length}
use Rattle.pm_btpage.specs.declared.layout.TheConstants.{LEAF_KIND, INNER_KIND}
use Rattle.pm_btpage.specs.IndexPages.{items_of, word_in, capacity_of, IsBetween, IsIndexPage}
use Rattle.pm_btpage.specs.Finds.{IsAt}
use Rattle.pm_pages.specs.Rows.{kind_of}
use Rattle.pm_pages.specs.Trees.{child_of}
use Rattle.pm_pages.specs.Paged.{Paged, IsInHand}
use Rattle.pm_tree.specs.Steps.{IsChildFor, IsNoNode}
use Rattle.pm_tree.specs.declared.places.Place.{Place}
use Rattle.pm_tree.specs.declared.places.Place.TheVariants.{Held, Gap, Full, Below, Other}

-- item i of a leaf has the key, and this word
pub record HasItem (page key : List ℕ) (i word : ℕ) : Type 0 where
  pub kind : kind_of page ≡ LEAF_KIND
  pub well_made : IsIndexPage page
  pub at : IsAt (items_of page) key i
  pub is : word ≡ word_in (items_of page) i

-- the key would stand before item i of a leaf
pub record HasGap (page key : List ℕ) (i : ℕ) : Type 0 where
  pub kind : kind_of page ≡ LEAF_KIND
  pub well_made : IsIndexPage page
  pub between : IsBetween (items_of page) key i

-- the key stands below child i of an inner page
pub record IsBelowChild (page key : List ℕ) (i child : ℕ) : Type 0 where
  pub kind : kind_of page ≡ INNER_KIND
  pub well_made : IsIndexPage page
  pub for_key : IsChildFor (items_of page) key i
  pub is : child ≡ child_of page i

-- where the key stands in a page; a leaf may have room for another item, or not
abbrev pub IsPlaceOn : List ℕ → List ℕ → Place → Type 0
IsPlaceOn page key (Held i word) = HasItem page key i word
IsPlaceOn page key (Gap i) = HasGap page key i × (length (items_of page) < capacity_of (length page))
IsPlaceOn page key (Full i) = HasGap page key i × (capacity_of (length page) ≤ length (items_of page))
IsPlaceOn page key (Below i child) = IsBelowChild page key i child
IsPlaceOn page key Other = IsNoNode page

-- where the key stands in a page that is at hand
pub record IsPlaceIn (p : Paged) (at : ℕ) (key : List ℕ) (place : Place) : Type 0 where
  pub some : 1 ≤ at
  pub page : List ℕ
  pub in_hand : IsInHand p at page
  pub size : length page ≡ p.page_size
  pub is : IsPlaceOn page key place

-- no such page was looked at
pub record PassesBy (count at : ℕ) (place : Place) : Type 0 where
  pub other : place ≡ Other
  pub where_at : (at ≡ 0) ⊎ (count ≤ at)

-- where the key stands in a page of the partition, or that there is no such page
abbrev pub IsPlace : Paged → ℕ → ℕ → List ℕ → Place → Type 0
IsPlace p count at key place = PassesBy count at place ⊎ ((at < count) × IsPlaceIn p at key place)
