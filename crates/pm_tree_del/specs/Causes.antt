-- What a removal changed, whatever the pages say, and why it fails.
use Rattle.std.specs.Prelude.{◌≡◌, ◌≢◌, ℕ, ◌≤◌, ◌⊎◌, Bool, true, false, IsTrue, Result, IsErrOf}
use Rattle.pm_types.specs.declared.page_id.PageId.{PageId}
use Rattle.pm_types.specs.declared.fault.PageFault.{PageFault}
use Rattle.pm_types.specs.declared.fault.PageFault.TheVariants.{Failed, BadPage}
use Rattle.pm_types.specs.Counts.{HasRisen}
use Rattle.pm_meta.specs.declared.slots.MetaSlot.{MetaSlot}
use Rattle.pm_meta.specs.declared.slots.MetaSlot.TheVariants.{Reuse}
use Rattle.pm_meta.specs.MetaPages.{IsSlot}
use Rattle.pm_pages.specs.Paged.{Paged, IsBadPage, IsAfterGap}
use Rattle.pm_pages.specs.Edits.{EditsPages, HasMeta, IsNumberIn}
use Rattle.pm_tree.specs.Steps.{NamesNoNode, IsTooDeep}
use Rattle.pm_tree_del.specs.declared.remove.Removal.{Removal}
use Rattle.pm_tree_del.specs.declared.remove.Removal.TheVariants.{Absent, Kept, Small}
use Rattle.pm_tree_del.specs.Mending.{MendsChild, HasNoPair}
use Rattle.pm_pages.specs.SoundPages.{IsSound}
use Rattle.pm_tree_del.specs.Stored.{AreNearlyStored}

-- every number of the meta page is as it was but the reuse chain's first page
pub record KeepsNumbers (old new : Paged) : Type 0 where
  pub others : (slot : MetaSlot) → IsSlot slot → slot ≢ Reuse → (n : ℕ) → IsNumberIn old slot n
      → IsNumberIn new slot n

-- At most so many pages were asked for that weren't before, and no others changed than were asked for. Where
-- each page is there, and at hand or passes its check, it is so still; and where each passes its check, but for
-- index pages without items, it does so still.
pub record RemovesPages (T : Type 0) (old new : Paged) (most : ℕ) : Type 0 where
  pub edits : EditsPages T old new (λ j. IsTrue (new.asked j)) most
  pub meta : HasMeta new
  pub numbers : KeepsNumbers old new
  pub sound : T → IsSound old → IsSound new
  pub passes : T → AreNearlyStored old → AreNearlyStored new

-- page i was asked for, isn't the first, and is at hand
pub record IsHeld (p : Paged) (i : ℕ) : Type 0 where
  pub some : 1 ≤ i
  pub known : IsTrue (p.known i)
  pub asked : IsTrue (p.asked i)

-- what is wrong, as it was at one moment or is at the end: a page is bad, the one before a page that was given
-- back isn't there, a page has no pair of children that can be mended, a page on the way names a wrong one, or
-- there is one more level than may be
abbrev pub IsRemoveFault : Type 0 → Paged → Paged → ℕ → PageId → Type 0
IsRemoveFault T moment now cache id =
    ((i : ℕ) × IsBadPage T moment i id)
    ⊎ ((i : ℕ) × IsAfterGap T moment i id) ⊎ HasNoPair T moment now id ⊎ NamesNoNode now cache id
    ⊎ IsTooDeep now cache id

-- the fault at a moment until which only pages changed that were asked for
pub record IsRemoveFaultAfter (T : Type 0) (old new : Paged) (cache : ℕ) (id : PageId) : Type 0 where
  pub between : Paged
  pub most : ℕ
  pub edits : EditsPages T old between (λ j. IsTrue (between.asked j)) most
  pub fault : IsRemoveFault T between new cache id

-- a call of the disk failed, or there is such a fault
pub record HasRemoveCause {R : Type 0} (T : Type 0) (old new : Paged) (cache : ℕ)
    (result : Result R PageFault) : Type 0 where
  pub failed : IsErrOf result Failed → HasRisen old.faults new.faults
  pub bad : (id : PageId) → IsErrOf result (BadPage id) → IsRemoveFaultAfter T old new cache id

-- the answer of a page that lost an item, and of which this says whether it has too few
abbrev pub as_removal : ℕ → Bool → Removal
as_removal was true = Small was
as_removal was false = Kept was

-- what became of a page once the tree below its child lost an item: nothing where the child has enough, and
-- else the child was mended
abbrev pub Lifts : Type 0 → Paged → Paged → ℕ → ℕ → ℕ → ℕ → Removal → Removal → Type 0
Lifts T old new count at i child Absent lifted = (lifted ≡ Absent) × ((j : ℕ) → new.pages j ≡ old.pages j)
Lifts T old new count at i child (Kept was) lifted = (lifted ≡ Kept was) × ((j : ℕ) → new.pages j ≡ old.pages j)
Lifts T old new count at i child (Small was) lifted = (few : Bool) × (lifted ≡ as_removal was few)
    × MendsChild T old new count at i child few
