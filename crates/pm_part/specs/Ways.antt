-- The way of a key from the root of a cache's tree, and what is wrong on it.
use Rattle.std.specs.Prelude.{◌≡◌, ℕ, zero, suc, ◌≤◌, ◌⊎◌, List, Result, IsErrOf}
use Rattle.pm_types.specs.declared.page_id.PageId.{PageId}
use Rattle.pm_types.specs.declared.fault.PageFault.{PageFault}
use Rattle.pm_types.specs.declared.fault.PageFault.TheVariants.{Failed, BadPage}
use Rattle.pm_types.specs.Counts.{HasRisen}
use Rattle.pm_types.specs.Ids.{page_id}
use Rattle.pm_meta.specs.declared.slots.MetaSlot.TheVariants.{Root, Pages}
use Rattle.pm_pages.specs.declared.limits.TheConstants.{LEVELS_MAX}
use Rattle.pm_pages.specs.Paged.{Paged, IsBadPage}
use Rattle.pm_pages.specs.Edits.{IsNumberIn}
use Rattle.pm_tree.specs.Steps.{IsOfNoTree}
use Rattle.pm_tree.specs.Places.{IsPlaceIn}
use Rattle.pm_tree.specs.declared.places.Place.TheVariants.{Below}

-- Pages that are at hand lead a key from the root of a cache's tree to page `at`, through so many inner
-- pages, each of which has the next one as its child for the key. The last of them is page `from`. The root
-- is named by the meta page, which is page 0.
abbrev pub IsWay : Paged → ℕ → List ℕ → ℕ → ℕ → ℕ → Type 0
IsWay p cache key zero from at = (from ≡ 0) × IsNumberIn p (Root cache) at
IsWay p cache key (suc n) from at =
    (i : ℕ) × IsPlaceIn p from key (Below i at) × (before : ℕ) × IsWay p cache key n before from

-- the way of a key leads to page `at`
pub record IsReached (p : Paged) (cache : ℕ) (key : List ℕ) (at : ℕ) : Type 0 where
  pub levels : ℕ
  pub from : ℕ
  pub way : IsWay p cache key levels from at

-- a page that was bad at one moment, and has this name, is the meta page, or one to which the way of a key leads
pub record IsBadOnWay (T : Type 0) (moment now : Paged) (cache : ℕ) (key : List ℕ) (id : PageId)
    : Type 0 where
  pub at : ℕ
  pub on_way : (at ≡ 0) ⊎ IsReached now cache key at
  pub bad : IsBadPage T moment at id

-- The page on the way of a key that has this name leads it to no page of the tree: to 0, to one at the page
-- count or past it, or to one of another kind. For a root the page is the meta page.
pub record LeadsToNoNode (p : Paged) (cache : ℕ) (key : List ℕ) (id : PageId) : Type 0 where
  pub levels : ℕ
  pub from : ℕ
  pub at : ℕ
  pub name : id ≡ page_id p.part from
  pub way : IsWay p cache key levels from at
  pub wrong : (at ≡ 0) ⊎ ((count : ℕ) × IsNumberIn p Pages count × (count ≤ at)) ⊎ IsOfNoTree p at

-- the page on the last level that a tree may have, which has this name, leads a key on
pub record LeadsTooDeep (p : Paged) (cache : ℕ) (key : List ℕ) (id : PageId) : Type 0 where
  pub from : ℕ
  pub at : ℕ
  pub name : id ≡ page_id p.part from
  pub way : IsWay p cache key LEVELS_MAX from at

-- what is wrong on the way of a key: a page was bad, a page leads to no page of the tree, or there is one
-- more level than may be
abbrev pub IsWayFault : Type 0 → Paged → ℕ → List ℕ → Paged → PageId → Type 0
IsWayFault T now cache key moment id =
    IsBadOnWay T moment now cache key id ⊎ LeadsToNoNode now cache key id ⊎ LeadsTooDeep now cache key id

-- a call of the disk failed, or something is wrong on the way of a key
pub record HasWayCause {R : Type 0} (T : Type 0) (old new : Paged) (cache : ℕ) (key : List ℕ)
    (result : Result R PageFault) : Type 0 where
  pub failed : IsErrOf result Failed → HasRisen old.faults new.faults
  pub bad : (id : PageId) → IsErrOf result (BadPage id) → IsWayFault T new cache key old id
