-- Why a put fails.
use Rattle.std.specs.Prelude.{◌≡◌, ℕ, ◌⊎◌, List, IsTrue, Result, IsErrOf}
use Rattle.pm_types.specs.declared.page_id.PageId.{PageId}
use Rattle.pm_types.specs.declared.fault.PageFault.{PageFault}
use Rattle.pm_types.specs.declared.fault.PageFault.TheVariants.{Failed, BadPage}
use Rattle.pm_types.specs.Counts.{HasRisen}
use Rattle.pm_types.specs.Ids.{page_id}
use Rattle.pm_pages.specs.Paged.{Paged, IsInHand, IsBadPage}
use Rattle.pm_pages.specs.Edits.{EditsPages}
use Rattle.pm_pages.specs.SparePages.{NamesNoSpare, HasGapBelow}
use Rattle.pm_tree.specs.declared.put.Put.{Put}
use Rattle.pm_tree.specs.declared.put.Put.TheVariants.{Kept, Split}
use Rattle.pm_tree.specs.Steps.{NamesNoNode, IsTooDeep}
use Rattle.pm_tree.specs.Grown.{IsParent, TakesChild}

-- a page that is at hand, and has this name, has no place for a new child from the key on, though
-- the page below was divided there
pub record HasNoPlace (p : Paged) (id : PageId) : Type 0 where
  pub at : ℕ
  pub name : id ≡ page_id p.part at
  pub page : List ℕ
  pub in_hand : IsInHand p at page
  pub key : List ℕ
  pub place : ℕ
  pub no_place : IsParent page key place → ⊥

-- what is wrong, as it was at one moment or is at the end: a page is bad, the one before the page that is taken
-- next isn't there, the meta page names no page that can be taken, a page has no place for a child,
-- a page on the way names a wrong one, or there is one more level than may be
abbrev pub IsPutFault : Type 0 → Paged → Paged → ℕ → PageId → Type 0
IsPutFault T moment now cache id =
    ((i : ℕ) × IsBadPage T moment i id) ⊎ HasGapBelow T moment id ⊎ NamesNoSpare now id ⊎ HasNoPlace now id
    ⊎ NamesNoNode now cache id ⊎ IsTooDeep now cache id

-- the fault at a moment until which only pages changed that were asked for
pub record IsPutFaultAfter (T : Type 0) (old new : Paged) (cache : ℕ) (id : PageId) : Type 0 where
  pub between : Paged
  pub most : ℕ
  pub edits : EditsPages T old between (λ j. IsTrue (between.asked j)) most
  pub fault : IsPutFault T between new cache id

-- a call of the disk failed, or there is such a fault
pub record HasPutCause {R : Type 0} (T : Type 0) (old new : Paged) (cache : ℕ)
    (result : Result R PageFault) : Type 0 where
  pub failed : IsErrOf result Failed → HasRisen old.faults new.faults
  pub bad : (id : PageId) → IsErrOf result (BadPage id) → IsPutFaultAfter T old new cache id

-- what became of a page once the tree below its child had the item: nothing where the child kept
-- its page, and else it took the new child
abbrev pub Lifts : Type 0 → Paged → Paged → ℕ → ℕ → Put → Put → Type 0
Lifts T old new at i (Kept was) put = (put ≡ Kept was) × ((j : ℕ) → new.pages j ≡ old.pages j)
Lifts T old new at i (Split part) put = TakesChild T old new at i part put
