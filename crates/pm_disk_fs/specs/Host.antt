-- What a clause sees of the host over files.
use Rattle.std.specs.Prelude.{◌≡◌, ◌⊎◌, ℕ, List, Option, None, IsSome, IsNone, IsSomeAnd, IsTrue, Bool, true}
use Rattle.std.specs.Prelude.{Result, OnOk, OnErr}
use Rattle.pm_disk.specs.States.{DeviceState}
use Rattle.pm_disk.specs.declared.names.StoreFile.TheVariants.{Segment}
use Rattle.pm_disk_fs.specs.Failures.{IsFailureOn, IsSystemFailure, IsLockFailure, IsCallOn, IsOnFileOrFolder}
use Rattle.pm_disk_fs.specs.declared.failure.SystemCall.TheVariants.{Write}
use Rattle.pm_disk_fs.specs.declared.failure.Object.TheVariants.{Output}
use Rattle.pm_disk_fs.specs.declared.failure.Failure.TheVariants.{Lent}
use Rattle.pm_disk_fs.specs.declared.failure.SystemCall.{SystemCall}
use Rattle.pm_disk_fs.specs.declared.failure.Object.{Object}
use Rattle.pm_disk_fs.specs.declared.failure.Failure.{Failure}
use Rattle.pm_disk_fs.specs.OpenViews.{OpenView}
use Rattle.pm_disk_fs.specs.declared.writes.Writes.{Writes}

-- What the host's calls have met so far, and what they keep back.
pub record HostView : Type 0 where
  -- how often a call has failed, up to 2^64 - 1, where the count stands still
  pub faults : ℕ
  -- the first failure
  pub first : Option Failure
  -- whether the parts are lent
  pub is_lent : Bool
  -- the bytes of the name of the folder that is bound
  pub folder : Option (List ℕ)
  -- how many folders were made for stores, up to 2^64 - 1, where the count stands still
  pub made : ℕ
  -- whether a change or a force of a file has failed, and what of the log isn't with the system yet
  pub writes : Writes
  -- the files that are open since they were changed, in the order of their last changes
  pub files : List OpenView
  -- what is left of the input, where its reader reports that
  pub input : Option (List ℕ)

-- what the host reports about itself: each page may be read and written
abbrev pub state_of : HostView → DeviceState
state_of host = record {
  faults = host.faults;
  access = record {
    folder = host.folder;
    is_lent = host.is_lent;
    reads = λ _. true;
    writes = λ _. true;
    made = host.made;
  };
}

-- A failure of a call that makes these calls of the system, on a host that was so.
abbrev pub IsHostFailure : HostView → (SystemCall → Object → Type 0) → Failure → Type 0
IsHostFailure host calls failure =
    IsFailureOn calls (host.folder ≡ None) (IsTrue host.writes.is_poisoned) failure

-- A failure of a call that binds a folder: of what is left to do in the one that was bound, or of locking the
-- new one, whose lock somebody else may have.
abbrev pub IsBindFailure : HostView → Failure → Type 0 → Type 0
IsBindFailure host failure held =
    IsHostFailure host (IsOnFileOrFolder (Segment host.writes.buffer.seg)) failure ⊎ IsLockFailure held failure

-- A failure of a call that prints: the system refused it, or the parts are lent.
abbrev pub IsPrintFailure : HostView → Failure → Type 0
IsPrintFailure host failure = (host.is_lent ≡ true × (failure ≡ Lent))
    ⊎ IsSystemFailure (IsCallOn Write Output) failure

-- The first failure is known once a call has failed, comes with the first call that fails, and never changes.
-- It is one that this call may have.
pub record KeepsFirstFailure {T E : Type 0} (may_fail : Failure → Type 0) (old new : HostView)
    (result : Result T E) : Type 0 where
  pub kept : IsSome old.first → new.first ≡ old.first
  pub same : OnOk result (new.first ≡ old.first)
  pub known : OnErr result (IsSomeAnd new.first (λ failure. IsNone old.first → may_fail failure))
