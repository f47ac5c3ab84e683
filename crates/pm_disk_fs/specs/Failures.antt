-- Why a call over files failed.
use Rattle.std.specs.Prelude.{◌≡◌, ◌≤◌, ◌⊎◌, ⊤}
use Rattle.pm_types.specs.declared.limits.TheConstants.{PARTITIONS_MAX}
use Rattle.pm_disk.specs.declared.names.StoreFile.{StoreFile}
use Rattle.pm_disk.specs.declared.names.StoreFile.TheVariants.{Pages}
use Rattle.pm_disk_fs.specs.declared.failure.SystemCall.{SystemCall}
use Rattle.pm_disk_fs.specs.declared.failure.SystemCall.TheVariants.{Sync}
use Rattle.pm_disk_fs.specs.declared.failure.Object.{Object}
use Rattle.pm_disk_fs.specs.declared.failure.Object.TheVariants.{File, Folder, FolderAbove}
use Rattle.pm_disk_fs.specs.declared.failure.Failure.{Failure}
use Rattle.pm_disk_fs.specs.declared.failure.Failure.TheVariants as failure

-- A failure of a function that makes some calls of the system, each on some object.
--
--   failure        it comes only where
--   System         the system refused one of these calls, on its object
--   Memory         there was too little of it
--   Poisoned       a change or a force of a file had failed before
--   Unbound        no folder is bound
--   NoPartition    an object is the file of this partition, whose number no name has
--   Lent, Locked   never
abbrev pub IsFailureOn : (SystemCall → Object → Type 0) → Type 0 → Type 0 → Failure → Type 0
IsFailureOn calls unbound poisoned (failure.System call object error) = calls call object
IsFailureOn calls unbound poisoned failure.Memory = ⊤
IsFailureOn calls unbound poisoned failure.Poisoned = poisoned
IsFailureOn calls unbound poisoned failure.Unbound = unbound
IsFailureOn calls unbound poisoned failure.Lent = ⊥
IsFailureOn calls unbound poisoned failure.Locked = ⊥
IsFailureOn calls unbound poisoned (failure.NoPartition part) =
    (call : SystemCall) × calls call (File (Pages part)) × (PARTITIONS_MAX ≤ part)

-- A failure of a function that makes a file's path, and no call of the system.
abbrev pub IsPathFailure : StoreFile → Type 0 → Failure → Type 0
IsPathFailure name unbound (failure.System call object error) = ⊥
IsPathFailure name unbound failure.Memory = ⊤
IsPathFailure name unbound failure.Poisoned = ⊥
IsPathFailure name unbound failure.Unbound = unbound
IsPathFailure name unbound failure.Lent = ⊥
IsPathFailure name unbound failure.Locked = ⊥
IsPathFailure name unbound (failure.NoPartition part) = (name ≡ Pages part) × (PARTITIONS_MAX ≤ part)

-- One of a function that needs no folder, and may be called where the store is poisoned.
abbrev pub IsSystemFailure : (SystemCall → Object → Type 0) → Failure → Type 0
IsSystemFailure calls failure = IsFailureOn calls ⊥ ⊥ failure

-- A call on this object.
abbrev pub IsOn : Object → SystemCall → Object → Type 0
IsOn wanted call object = object ≡ wanted

-- A call on this file.
abbrev pub IsOnFile : StoreFile → SystemCall → Object → Type 0
IsOnFile name call object = object ≡ File name

-- This call, on this object.
abbrev pub IsCallOn : SystemCall → Object → SystemCall → Object → Type 0
IsCallOn made wanted call object = (call ≡ made) × (object ≡ wanted)

-- A sync, of any file: one may have to be closed, so that there is room for another.
abbrev pub IsSync : SystemCall → Object → Type 0
IsSync call object = call ≡ Sync

-- A call on this file, or a sync that makes room for it.
abbrev pub IsOnFileOrSync : StoreFile → SystemCall → Object → Type 0
IsOnFileOrSync name call object = (object ≡ File name) ⊎ (call ≡ Sync)

-- One of those, or a call on the folder.
abbrev pub IsOnFileOrFolder : StoreFile → SystemCall → Object → Type 0
IsOnFileOrFolder name call object = (object ≡ Folder) ⊎ ((object ≡ File name) ⊎ (call ≡ Sync))

-- A call on this file or on the other, or a sync that makes room for one of them.
abbrev pub IsOnEither : StoreFile → StoreFile → SystemCall → Object → Type 0
IsOnEither name other call object = (object ≡ File name) ⊎ ((object ≡ File other) ⊎ (call ≡ Sync))

-- Any of these, or a call on the folder.
abbrev pub IsOnEitherOrFolder : StoreFile → StoreFile → SystemCall → Object → Type 0
IsOnEitherOrFolder name other call object =
    (object ≡ Folder) ⊎ ((object ≡ File name) ⊎ ((object ≡ File other) ⊎ (call ≡ Sync)))

-- A call on the folder, or on the one above it.
abbrev pub IsOnFolders : SystemCall → Object → Type 0
IsOnFolders call object = (object ≡ Folder) ⊎ (object ≡ FolderAbove)

-- A failure of a function that locks the folder: the system refused a call on it, or on the one above it, or
-- there was too little memory, or somebody else had the lock.
abbrev pub IsLockFailure : Type 0 → Failure → Type 0
IsLockFailure held (failure.System call object error) = (object ≡ Folder) ⊎ (object ≡ FolderAbove)
IsLockFailure held failure.Memory = ⊤
IsLockFailure held failure.Locked = held
IsLockFailure held failure.Poisoned = ⊥
IsLockFailure held failure.Unbound = ⊥
IsLockFailure held failure.Lent = ⊥
IsLockFailure held (failure.NoPartition part) = ⊥
