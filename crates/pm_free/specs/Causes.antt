-- Why a call on the chains of data pages fails.
use Rattle.std.specs.Prelude.{◌≡◌, ◌≢◌, ℕ, ◌<◌, ◌⊎◌, List, IsTrue, Result, IsErrOf}
use Rattle.pm_types.specs.declared.page_id.PageId.{PageId}
use Rattle.pm_types.specs.declared.fault.PageFault.{PageFault}
use Rattle.pm_types.specs.declared.fault.PageFault.TheVariants.{Failed, BadPage}
use Rattle.pm_types.specs.Counts.{HasRisen}
use Rattle.pm_types.specs.Ids.{page_id}
use Rattle.pm_data.specs.DataPages.{data_of}
use Rattle.pm_meta.specs.declared.layout.TheConstants.{BUCKETS}
use Rattle.pm_meta.specs.declared.slots.MetaSlot.TheVariants.{Bucket, Pages}
use Rattle.pm_pages.specs.Chains.{bucket_of}
use Rattle.pm_pages.specs.Paged.{Paged, IsBadPage, IsAfterGap}
use Rattle.pm_pages.specs.Edits.{EditsPages, IsNumberIn}
use Rattle.pm_pages.specs.SparePages.{NamesNoSpare, HasBadReuse, HasGapBelow}
use Rattle.pm_free.specs.DataEdits.{IsDataIn}
use Rattle.pm_free.specs.Seats.{IsNoDataIn}

-- the meta page names page `at` as the first of a bucket's chain
pub record IsHeadOf (p : Paged) (bucket at : ℕ) : Type 0 where
  pub few : bucket < BUCKETS
  pub is : IsNumberIn p (Bucket bucket) at

-- a data page that is at hand names page `at` as the one before it or after it
pub record IsNeighbourOf (p : Paged) (from at : ℕ) : Type 0 where
  pub page : List ℕ
  pub is : IsDataIn p from page
  pub names : (at ≡ (data_of page).prev) ⊎ (at ≡ (data_of page).next)

-- page `from` names page `at`: the meta page as the first of a chain, or a data page as a neighbour
abbrev pub Names : Paged → ℕ → ℕ → Type 0
Names p from at = ((from ≡ 0) × (bucket : ℕ) × IsHeadOf p bucket at) ⊎ IsNeighbourOf p from at

-- the page with this name names a page that is no data page of the partition
pub record NamesNoData (p : Paged) (id : PageId) : Type 0 where
  pub from : ℕ
  pub at : ℕ
  pub name : id ≡ page_id p.part from
  pub names : Names p from at
  pub count : ℕ
  pub count_is : IsNumberIn p Pages count
  pub wrong : IsNoDataIn p count at

-- the page that another one names is bad, and has this name
pub record HasBadNamed (T : Type 0) (p : Paged) (id : PageId) : Type 0 where
  pub from : ℕ
  pub at : ℕ
  pub names : Names p from at
  pub bad : IsBadPage T p at id

-- the meta page, which has this name, names a data page of another bucket as the first of a bucket's chain
pub record HasWrongHead (p : Paged) (id : PageId) : Type 0 where
  pub name : id ≡ page_id p.part 0
  pub bucket : ℕ
  pub at : ℕ
  pub head : IsHeadOf p bucket at
  pub page : List ℕ
  pub is : IsDataIn p at page
  pub other : bucket_of page ≢ bucket

-- What is wrong: a page names one that is no data page, or a bad one, or one of another bucket; the meta
-- page names no page that can be taken; the first page that can be taken is bad, or the page before the one
-- that is taken or given back isn't there.
abbrev pub IsChainFault : Type 0 → Paged → PageId → Type 0
IsChainFault T p id =
    NamesNoData p id ⊎ HasBadNamed T p id ⊎ HasWrongHead p id ⊎ NamesNoSpare p id
    ⊎ HasBadReuse T p id ⊎ HasGapBelow T p id ⊎ ((i : ℕ) × IsAfterGap T p i id)

-- the fault at a moment until which only pages changed that were asked for
pub record IsChainFaultAfter (T : Type 0) (old : Paged) (id : PageId) : Type 0 where
  pub between : Paged
  pub most : ℕ
  pub edits : EditsPages T old between (λ j. IsTrue (between.asked j)) most
  pub fault : IsChainFault T between id

-- a call of the disk failed, or there is such a fault
pub record HasChainCause {R : Type 0} (T : Type 0) (old new : Paged)
    (result : Result R PageFault) : Type 0 where
  pub failed : IsErrOf result Failed → HasRisen old.faults new.faults
  pub bad : (id : PageId) → IsErrOf result (BadPage id) → IsChainFaultAfter T old id
