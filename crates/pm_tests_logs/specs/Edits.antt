-- What a caller's edits of pages say.
use Rattle.std.specs.Prelude.{◌≡◌, ◌≢◌, ℕ, ◌⊎◌, List, Some, IsSomeAnd, IsTrue, Result, IsErrOf, slice_set}
use Rattle.pm_types.specs.declared.page_id.PageId.{PageId}
use Rattle.pm_types.specs.declared.fault.PageFault.{PageFault}
use Rattle.pm_types.specs.declared.fault.PageFault.TheVariants.{Failed, BadPage}
use Rattle.pm_types.specs.Counts.{HasRisen}
use Rattle.pm_pages.specs.PageLists.{ReadsAt}
use Rattle.pm_pages.specs.Paged.{Paged, IsTold, CoversByte, TakesRoom, SamePartition, IsLent}
use Rattle.pm_pages.specs.Paged.{IsBadPage}

-- one byte of page i was set, and its patch covers that byte; every other page is as it was
pub record SetsByte (T : Type 0) (old new : Paged) (i at byte : ℕ) : Type 0 where
  pub here : (was : List ℕ) → IsTold T old i → old.pages i ≡ Some was
      → new.pages i ≡ Some (slice_set was at byte)
  pub lends : IsLent new i
  pub others : (j : ℕ) → j ≢ i → IsTold T old j → new.pages j ≡ old.pages j
  pub known : (j : ℕ) → IsTrue (old.known j) → IsTrue (new.known j)
  pub reads : (j : ℕ) → j ≢ i → IsTrue (new.known j) → IsTrue (old.known j) ⊎ IsSomeAnd (new.pages j) (ReadsAt j)
  pub lent : (j : ℕ) → IsTrue (old.lent j) → IsTrue (new.lent j)
  pub covers : CoversByte (new.patch i) at
  pub room : TakesRoom old new i
  pub same : SamePartition old new

-- one byte of a page was set, and then one of another
pub record SetsTwoBytes (T : Type 0) (old new : Paged) (i k at byte : ℕ) : Type 0 where
  pub between : Paged
  pub one : SetsByte T old between i at byte
  pub two : SetsByte T between new k at byte

-- a call of the disk failed, or one of two pages is bad; the second as the first edit left it
pub record HasTwoCauses {R : Type 0} (T : Type 0) (old : Paged) (now : ℕ) (i k : ℕ)
    (result : Result R PageFault) : Type 0 where
  pub failed : IsErrOf result Failed → HasRisen old.faults now
  pub bad : (id : PageId) → IsErrOf result (BadPage id)
      → IsBadPage T old i id
      ⊎ ((between : Paged) × ((at byte : ℕ) × SetsByte T old between i at byte) × IsBadPage T between k id)
