-- What several calls on the pages of a partition left of them.
use Rattle.std.specs.Prelude.{◌≡◌, ℕ, ◌+◌, ◌<◌, ◌≤◌, List, Some, IsTrue, Result, IsErrOf, slice_index}
use Rattle.pm_types.specs.declared.page_id.PageId.{PageId}
use Rattle.pm_types.specs.declared.fault.PageFault.{PageFault}
use Rattle.pm_types.specs.declared.fault.PageFault.TheVariants.{Failed, BadPage}
use Rattle.pm_types.specs.Counts.{HasRisen}
use Rattle.pm_meta.specs.declared.slots.MetaSlot.{MetaSlot}
use Rattle.pm_meta.specs.MetaPages.{field_of}
use Rattle.pm_pages.specs.Rows.{bytes_of}
use Rattle.pm_pages.specs.Paged.{Paged, IsTold, IsThere, LendsNone, SamePartition, CoversByte, IsInHand}
use Rattle.pm_pages.specs.Paged.{WritesPage}
use Rattle.pm_types.specs.Spans.{Coverage}
use Rattle.pm_types.specs.Pages.{IsNoted}

-- byte k of page i, 0 where there is none
abbrev pub byte_of : Paged → ℕ → ℕ → ℕ
byte_of p i k = slice_index (bytes_of (p.pages i)) k

-- Pages were asked for, at most so many that weren't before. None was changed, and none lent.
pub record LooksAtPages (T : Type 0) (old new : Paged) (most : ℕ) : Type 0 where
  pub pages : (j : ℕ) → IsTold T old j → new.pages j ≡ old.pages j
  pub known : (j : ℕ) → IsTrue (old.known j) → IsTrue (new.known j)
  pub asked : (j : ℕ) → IsTrue (old.asked j) → IsTrue (new.asked j)
  pub lent : (j : ℕ) → IsTrue (old.lent j) → IsTrue (new.lent j)
  pub none_lent : LendsNone old new
  pub patches : (j : ℕ) → new.patch j ≡ old.patch j
  pub spare : old.spare ≤ new.spare + most
  pub same : SamePartition old new

-- Pages were asked for, at most so many that weren't before, and no others than these were changed.
-- Each byte that changed is covered by its page's patch.
pub record EditsPages (T : Type 0) (old new : Paged) (touched : ℕ → Type 0) (most : ℕ) : Type 0 where
  pub others : (j : ℕ) → IsTold T old j → (touched j → ⊥) → new.pages j ≡ old.pages j
  pub known : (j : ℕ) → IsTrue (old.known j) → IsTrue (new.known j)
  pub asked : (j : ℕ) → IsTrue (old.asked j) → IsTrue (new.asked j)
  pub lent : (j : ℕ) → IsTrue (old.lent j) → IsTrue (new.lent j)
  pub covers : (j k : ℕ) → k < old.page_size → CoversByte (old.patch j) k → CoversByte (new.patch j) k
  pub covered : (j k : ℕ) → k < old.page_size → IsTold T old j → (CoversByte (new.patch j) k → ⊥)
      → byte_of new j k ≡ byte_of old j k
  pub spare : old.spare ≤ new.spare + most
  pub same : SamePartition old new

-- the bytes of page i were written, nothing else happened, and the patch notes what changed of them
pub record RewritesPage (old new : Paged) (i : ℕ) (before after : Coverage)
    (change : List ℕ → List ℕ → Type 0) : Type 0 where
  pub was : List ℕ
  pub now : List ℕ
  pub is : old.pages i ≡ Some was
  pub writes : WritesPage old new i now
  pub noted : IsNoted before after was now
  pub changed : change was now

-- the partition's meta page was asked for, and is at hand
pub record HasMeta (p : Paged) : Type 0 where
  pub known : IsTrue (p.known 0)
  pub asked : IsTrue (p.asked 0)
  pub there : IsThere p 0

-- this is the number in a slot of the meta page, which is at hand
pub record IsNumberIn (p : Paged) (slot : MetaSlot) (number : ℕ) : Type 0 where
  pub meta : List ℕ
  pub in_hand : IsInHand p 0 meta
  pub is : number ≡ field_of meta slot

-- the only error is that of a call on the disk that failed
pub record HasDiskCause {R : Type 0} (old : Paged) (now : ℕ) (result : Result R PageFault) : Type 0 where
  pub failed : IsErrOf result Failed → HasRisen old.faults now
  pub not_bad : (id : PageId) → IsErrOf result (BadPage id) → ⊥
