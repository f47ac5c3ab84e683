-- Pages that can't be used: what a command meets of one, and over which pages of a store.
--
-- `may_change` holds of the partitions whose pages may have changed meanwhile: those of the keys that were put or
-- removed. Whoever knows of no such key of a partition knows that its pages are those of the store at first.
use Rattle.std.specs.Prelude.{◌≡◌, ◌<◌, ◌^◌, ◌⊎◌, ℕ, Bool, IsTrue, List, Option, Some, None, Result, IsErrOf}
use Rattle.pm_types.specs.declared.fault.PageFault.TheVariants.{BadPage}
use Rattle.pm_types.specs.declared.page_id.PageId.{PageId}
use Rattle.pm_types.specs.declared.shape.Shape.{Shape}
use Rattle.pm_model.specs.declared.line.Cmd.{Cmd}
use Rattle.pm_model.specs.declared.line.Cmd.TheVariants.{Put, Get, Remove, Scan, Checkpoint}
use Rattle.pm_model.specs.declared.line.Line.{Line}
use Rattle.pm_model.specs.declared.line.Line.TheVariants.{Good, Bad, Long}
use Rattle.pm_model.specs.Partitions.{part_of}
use Rattle.pm_pages.specs.Paged.{Paged}
use Rattle.pm_records.specs.Records.{Record, Logical}
use Rattle.pm_part.specs.Faults.{IsFaultAfter, IsFaultOf}
use Rattle.pm_part.specs.PairFaults.{WasBad, IsPairsFault}
use Rattle.pm_core.specs.BasePages.{Partitions}
use Rattle.pm_engine.specs.declared.frame_lines.Stop.{Stop}
use Rattle.pm_engine.specs.declared.frame_lines.Stop.TheVariants.{Faulted}
use Rattle.pm_engine.specs.declared.frame_scans.ScanStop.{ScanStop}
use Rattle.pm_engine.specs.declared.frame_scans.ScanStop.TheVariants as scan

-- What a command met that named this page, in a partition that was such at its start and such where it ended: the page
-- fails its check or isn't there, or it names a wrong page or row.
abbrev pub IsMetBy : Type 0 → Cmd → Paged → Paged → PageId → Type 0
IsMetBy T (Put cache key value) before after id = IsFaultAfter T before (IsFaultOf T after (Put cache key value)) id
IsMetBy T (Get cache key) before after id = IsFaultAfter T before (IsFaultOf T after (Get cache key)) id
IsMetBy T (Remove cache key) before after id = IsFaultAfter T before (IsFaultOf T after (Remove cache key)) id
IsMetBy T (Scan cache) before after id = WasBad T before 0 id ⊎ IsPairsFault T before cache id
IsMetBy T Checkpoint before after id = ⊥

-- it holds of the partition that this line may change
abbrev pub AllowsLine : (ℕ → Bool) → Shape → Line → Type 0
AllowsLine may_change shape (Good (Put cache key value)) = IsTrue (may_change (part_of key shape.partitions))
AllowsLine may_change shape (Good (Get cache key)) = Unit {0}
AllowsLine may_change shape (Good (Remove cache key)) = IsTrue (may_change (part_of key shape.partitions))
AllowsLine may_change shape (Good (Scan cache)) = Unit {0}
AllowsLine may_change shape (Good Checkpoint) = Unit {0}
AllowsLine may_change shape Bad = Unit {0}
AllowsLine may_change shape Long = Unit {0}

-- it holds of the partition that a record changes which is applied again
abbrev pub AllowsRecord : (ℕ → Bool) → Shape → Option Record → Type 0
AllowsRecord may_change shape None = Unit {0}
AllowsRecord may_change shape (Some (Logical op cache key value)) = IsTrue (may_change (part_of key shape.partitions))
AllowsRecord may_change shape (Some other) = Unit {0}

-- each page that was there is there with its bytes, but of changed partitions
abbrev pub KeepsPagesBut : (ℕ → Bool) → Partitions → Partitions → Type 0
KeepsPagesBut may_change old new = (part index : ℕ) (bytes : List ℕ) → old part index ≡ Some bytes
    → (new part index ≡ Some bytes) ⊎ IsTrue (may_change part)

-- A partition of a store, as a command had it at hand: unless it was changed, it has each page of these that was there.
pub record IsPartFrom (may_change : ℕ → Bool) (shape : Shape) (start : Partitions) (p : Paged) : Type 0 where
  pub page_size : p.page_size ≡ shape.page_size
  pub max_rows : p.max_rows ≡ shape.max_rows
  pub inside : p.part < shape.partitions
  pub pages : (index : ℕ) (bytes : List ℕ) → index < 2 ^ 32 → start p.part index ≡ Some bytes
      → (p.pages index ≡ Some bytes) ⊎ IsTrue (may_change p.part)

-- A page couldn't be used, and has this name: a command met it in a partition of a store that had these pages at first.
pub record MeetsBadPage (tells : Type 0) (may_change : ℕ → Bool) (shape : Shape) (start : Partitions) (id : PageId)
    : Type 0 where
  pub cmd : Cmd
  pub before : Paged
  pub after : Paged
  pub began : IsPartFrom may_change shape start before
  pub ended : IsPartFrom may_change shape start after
  pub same : after.part ≡ before.part
  pub met : IsMetBy tells cmd before after id

-- where a line of a round, or a command that is applied again, says that a page couldn't be used, it met one
abbrev pub MeetsInRound : Type 0 → (ℕ → Bool) → Shape → Partitions → Result Bool Stop → Type 0
MeetsInRound tells may_change shape start result =
    (id : PageId) → IsErrOf result (Faulted (BadPage id)) → MeetsBadPage tells may_change shape start id

-- the same of a scan
abbrev pub MeetsInScan : {T : Type 0} → Type 0 → (ℕ → Bool) → Shape → Partitions → Result T ScanStop → Type 0
MeetsInScan tells may_change shape start result =
    (id : PageId) → IsErrOf result (scan.Faulted (BadPage id)) → MeetsBadPage tells may_change shape start id

-- What calls leave of these pages of a store: where they go on, no partition changed but those that may have, and where
-- they name a page that couldn't be used, a command met it.
pub record KeepsOrMeets (tells : Type 0) (may_change : ℕ → Bool) (shape : Shape) (old new : Partitions) (goes_on : Type 0)
    (IsNamed : PageId → Type 0) : Type 0 where
  pub keeps : goes_on → KeepsPagesBut may_change old new
  pub meets : (id : PageId) → IsNamed id → MeetsBadPage tells may_change shape old id
