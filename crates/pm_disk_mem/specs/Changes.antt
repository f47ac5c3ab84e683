-- What a file in memory holds, and its changes, as the disk's value has them.
use Rattle.std.specs.Prelude.{◌≤◌, ℕ, List, [], ◌∷◌, length, Option, Some, None, Vec}
use Rattle.std.specs.declared.alloc.Global.{Global}
use Rattle.pm_disk.specs.Files.{Change, Write, Cut, Drop, bytes_of, changed}
use Rattle.pm_disk_mem.specs.declared.change.FileChange.{FileChange}
use Rattle.pm_disk_mem.specs.declared.change.FileChange.TheVariants as file

-- the bytes of a vector, or none
abbrev pub bytes_in : Option (Vec ℕ Global) → Option (List ℕ)
bytes_in None = None
bytes_in (Some bytes) = Some bytes.items

-- the change as the disk's value has it
abbrev pub change_of : FileChange → Change
change_of (file.Write at bytes) = Write at bytes.items
change_of (file.Cut len) = Cut len
change_of file.Remove = Drop

-- the change can be made: a write begins within the file, and a cut doesn't make it longer
abbrev pub CanChange : Change → Option (List ℕ) → Type 0
CanChange (Write at bytes) file = at ≤ length (bytes_of file)
CanChange (Cut len) file = len ≤ length (bytes_of file)
CanChange Drop file = Unit {0}

-- each of these changes can be made after those before it
abbrev pub CanAll : List Change → Option (List ℕ) → Type 0
CanAll [] file = Unit {0}
CanAll (change ∷ changes) file = CanChange change file × CanAll changes (changed change file)
