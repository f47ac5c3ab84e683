-- What one page of a tree says of a key, and the way of a descent.
use Rattle.std.specs.Prelude.{◌≡◌, ◌≢◌, ℕ, zero, suc, ◌<◌, ◌≤◌, ◌⊎◌, List, Option, Result, IsErrOf, length}
use Rattle.pm_types.specs.declared.page_id.PageId.{PageId}
use Rattle.pm_types.specs.declared.fault.PageFault.{PageFault}
use Rattle.pm_types.specs.declared.fault.PageFault.TheVariants.{Failed, BadPage}
use Rattle.pm_types.specs.Counts.{HasRisen}
use Rattle.pm_types.specs.Ids.{page_id}
use Rattle.pm_btpage.specs.declared.layout.TheConstants.{LEAF_KIND, INNER_KIND}
use Rattle.pm_btpage.specs.IndexPages.{Item, items_of, key_in, IsBelow, IsIndexPage}
use Rattle.pm_meta.specs.declared.slots.MetaSlot.TheVariants.{Root, Pages}
use Rattle.pm_pages.specs.declared.limits.TheConstants.{LEVELS_MAX}
use Rattle.pm_pages.specs.Rows.{kind_of}
use Rattle.pm_pages.specs.Trees.{child_of}
use Rattle.pm_pages.specs.Paged.{Paged, IsInHand, IsBadPage}
use Rattle.pm_pages.specs.Edits.{IsNumberIn}
use Rattle.pm_tree.specs.Maps.{get_in}
use Rattle.pm_tree.specs.declared.steps.Step.{Step}
use Rattle.pm_tree.specs.declared.steps.Step.TheVariants.{Word, Child, Other}

-- the keys of the first i items are not above the key, and those of the others are: child i is the
-- one below which the key stands
pub record IsChildFor (items : List Item) (key : List ℕ) (i : ℕ) : Type 0 where
  pub in_range : i ≤ length items
  pub upto : (j : ℕ) → j < i → IsBelow key (key_in items j) → ⊥
  pub above : (j : ℕ) → i ≤ j → j < length items → IsBelow key (key_in items j)

-- an inner page's child for a key
pub record LeadsTo (page key : List ℕ) (child : ℕ) : Type 0 where
  pub kind : kind_of page ≡ INNER_KIND
  pub well_made : IsIndexPage page
  pub number : ℕ
  pub for_key : IsChildFor (items_of page) key number
  pub is : child ≡ child_of page number

-- a leaf's word for a key
pub record HasWord (page key : List ℕ) (word : Option ℕ) : Type 0 where
  pub kind : kind_of page ≡ LEAF_KIND
  pub well_made : IsIndexPage page
  pub is : word ≡ get_in (items_of page) key

-- the page is of no tree
pub record IsNoNode (page : List ℕ) : Type 0 where
  pub leaf : kind_of page ≢ LEAF_KIND
  pub inner : kind_of page ≢ INNER_KIND

-- what a page says of a key
abbrev pub IsStepOn : List ℕ → List ℕ → Step → Type 0
IsStepOn page key (Word word) = HasWord page key word
IsStepOn page key (Child child) = LeadsTo page key child
IsStepOn page key Other = IsNoNode page

-- what a page says that is at hand
pub record IsStepIn (p : Paged) (at : ℕ) (key : List ℕ) (step : Step) : Type 0 where
  pub page : List ℕ
  pub in_hand : IsInHand p at page
  pub is : IsStepOn page key step

-- no such page was looked at: 0 names none, nor does an index past the page count
pub record PassesBy (count at : ℕ) (step : Step) : Type 0 where
  pub other : step ≡ Other
  pub where_at : (at ≡ 0) ⊎ (count ≤ at)

-- what a page of the partition says, or that there is no such page
abbrev pub IsLook : Paged → ℕ → ℕ → List ℕ → Step → Type 0
IsLook p count at key step = PassesBy count at step ⊎ ((at < count) × IsStepIn p at key step)

-- a page that is at hand has this child
pub record HasChild (p : Paged) (from at : ℕ) : Type 0 where
  pub page : List ℕ
  pub in_hand : IsInHand p from page
  pub kind : kind_of page ≡ INNER_KIND
  pub number : ℕ
  pub in_range : number ≤ length (items_of page)
  pub is : at ≡ child_of page number

-- Pages that are at hand lead from the root of a cache's tree to page `at`, through so many inner
-- pages, the last of which is page `from`. The root is named by the meta page, which is page 0.
abbrev pub IsPath : Paged → ℕ → ℕ → ℕ → ℕ → Type 0
IsPath p cache zero from at = (from ≡ 0) × IsNumberIn p (Root cache) at
IsPath p cache (suc n) from at = HasChild p from at × (before : ℕ) × IsPath p cache n before from

-- page i is at hand and of no tree
pub record IsOfNoTree (p : Paged) (i : ℕ) : Type 0 where
  pub page : List ℕ
  pub in_hand : IsInHand p i page
  pub kind : IsNoNode page

-- a page on the way from a root names no page of the tree: 0, one at the page count or past it, or
-- one of another kind
pub record NamesNoNode (p : Paged) (cache : ℕ) (id : PageId) : Type 0 where
  pub levels : ℕ
  pub from : ℕ
  pub at : ℕ
  pub name : id ≡ page_id p.part from
  pub path : IsPath p cache levels from at
  pub wrong : (at ≡ 0) ⊎ ((count : ℕ) × IsNumberIn p Pages count × (count ≤ at)) ⊎ IsOfNoTree p at

-- a page on the last level that a tree may have is an inner page
pub record IsTooDeep (p : Paged) (cache : ℕ) (id : PageId) : Type 0 where
  pub from : ℕ
  pub at : ℕ
  pub name : id ≡ page_id p.part from
  pub path : IsPath p cache LEVELS_MAX from at

-- a call of the disk failed, a page is bad, or a page on the way from a root names a wrong page
pub record HasLookCause {R : Type 0} (T : Type 0) (old new : Paged) (cache : ℕ)
    (result : Result R PageFault) : Type 0 where
  pub failed : IsErrOf result Failed → HasRisen old.faults new.faults
  pub bad : (id : PageId) → IsErrOf result (BadPage id)
      → ((i : ℕ) × IsBadPage T old i id) ⊎ NamesNoNode new cache id ⊎ IsTooDeep new cache id
