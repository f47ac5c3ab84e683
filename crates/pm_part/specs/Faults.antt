-- Why a call on a partition fails.
use Rattle.std.specs.Prelude.{◌≡◌, ℕ, ◌⊎◌, List, IsTrue, Result, IsErrOf}
use Rattle.pm_types.specs.declared.page_id.PageId.{PageId}
use Rattle.pm_types.specs.declared.fault.PageFault.{PageFault}
use Rattle.pm_types.specs.declared.fault.PageFault.TheVariants.{Failed, BadPage}
use Rattle.pm_types.specs.Counts.{HasRisen}
use Rattle.pm_types.specs.Ids.{page_id, page_of_link, index_of_id}
use Rattle.pm_model.specs.declared.line.Cmd.{Cmd}
use Rattle.pm_model.specs.declared.line.Cmd.TheVariants.{Put, Get, Remove, Scan, Checkpoint}
use Rattle.pm_pages.specs.Paged.{Paged, IsBadPage}
use Rattle.pm_pages.specs.Edits.{EditsPages}
use Rattle.pm_tree.specs.Indexes.{as_link}
use Rattle.pm_tree.specs.Places.{IsPlaceIn}
use Rattle.pm_tree.specs.declared.places.Place.TheVariants.{Gap, Full}
use Rattle.pm_tree.specs.PutCauses.{IsPutFaultAfter}
use Rattle.pm_tree.specs.Roots.{IsTooTall}
use Rattle.pm_tree_del.specs.Causes.{IsRemoveFaultAfter}
use Rattle.pm_free.specs.Causes.{IsChainFaultAfter}
use Rattle.pm_part.specs.declared.entries.Entry.{Entry}
use Rattle.pm_part.specs.Entries.{IsEntryIn, HasEntry}
use Rattle.pm_part.specs.Ways.{IsReached, IsWayFault}
use Rattle.pm_part.specs.Spots.{HasWrongLink}

-- the page that the item of a key names was bad at one moment, and has this name
pub record HasBadRowPage (T : Type 0) (moment now : Paged) (cache : ℕ) (key : List ℕ) (id : PageId)
    : Type 0 where
  pub entry : Entry
  pub is : IsEntryIn now cache key entry
  pub bad : IsBadPage T moment (index_of_id (page_of_link (as_link entry.word))) id

-- the leaf of a key, which has this name, has no item of it
pub record LacksKey (p : Paged) (cache : ℕ) (key : List ℕ) (id : PageId) : Type 0 where
  pub leaf : ℕ
  pub name : id ≡ page_id p.part leaf
  pub reached : IsReached p cache key leaf
  pub item : ℕ
  pub place : IsPlaceIn p leaf key (Gap item) ⊎ IsPlaceIn p leaf key (Full item)

-- the leaf of a key, which has this name, has no item of it, though the index had one at one moment
pub record HasLostKey (moment now : Paged) (cache : ℕ) (key : List ℕ) (id : PageId) : Type 0 where
  pub had : HasEntry moment cache key
  pub lacks : LacksKey now cache key id

-- what a get of a key meets, as it was at one moment or is at the end: something is wrong on the key's way,
-- the page that its item names is bad, or the item names no row of the key
abbrev pub IsFaultOfGet : Type 0 → Paged → ℕ → List ℕ → Paged → PageId → Type 0
IsFaultOfGet T now cache key moment id =
    IsWayFault T now cache key moment id
    ⊎ HasBadRowPage T moment now cache key id ⊎ HasWrongLink now cache key id

-- what setting the link of a key meets: something is wrong on the key's way, or its leaf has no item of it
abbrev pub IsFaultOfRelink : Type 0 → Paged → ℕ → List ℕ → Paged → PageId → Type 0
IsFaultOfRelink T now cache key moment id = IsWayFault T now cache key moment id ⊎ LacksKey now cache key id

-- what a put of a key meets: what a get does, a leaf that has lost the key, or what a change of a chain or a
-- put into the cache's tree meets
abbrev pub IsFaultOfPut : Type 0 → Paged → ℕ → List ℕ → Paged → PageId → Type 0
IsFaultOfPut T now cache key moment id =
    IsFaultOfGet T now cache key moment id ⊎ HasLostKey moment now cache key id
    ⊎ IsChainFaultAfter T moment id ⊎ IsPutFaultAfter T moment now cache id ⊎ IsTooTall T moment cache id

-- what a removal of a key meets: what a get does, or what a change of a chain or a removal from the cache's
-- tree meets
abbrev pub IsFaultOfRemove : Type 0 → Paged → ℕ → List ℕ → Paged → PageId → Type 0
IsFaultOfRemove T now cache key moment id =
    IsFaultOfGet T now cache key moment id
    ⊎ IsChainFaultAfter T moment id ⊎ IsRemoveFaultAfter T moment now cache id

-- what a command of a partition meets
abbrev pub IsFaultOf : Type 0 → Paged → Cmd → Paged → PageId → Type 0
IsFaultOf T now (Put cache key value) moment id = IsFaultOfPut T now cache key moment id
IsFaultOf T now (Get cache key) moment id = IsFaultOfGet T now cache key moment id
IsFaultOf T now (Remove cache key) moment id = IsFaultOfRemove T now cache key moment id
IsFaultOf T now (Scan cache) moment id = ⊥
IsFaultOf T now Checkpoint moment id = ⊥

-- the fault at a moment until which only pages changed that were asked for
pub record IsFaultAfter (T : Type 0) (old : Paged) (fault : Paged → PageId → Type 0) (id : PageId) : Type 0 where
  pub between : Paged
  pub most : ℕ
  pub edits : EditsPages T old between (λ j. IsTrue (between.asked j)) most
  pub is : fault between id

-- a call of the disk failed, or there is such a fault
pub record HasPartCause {R : Type 0} (T : Type 0) (old new : Paged) (fault : Paged → PageId → Type 0)
    (result : Result R PageFault) : Type 0 where
  pub failed : IsErrOf result Failed → HasRisen old.faults new.faults
  pub bad : (id : PageId) → IsErrOf result (BadPage id) → IsFaultAfter T old fault id
