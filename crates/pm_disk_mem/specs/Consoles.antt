-- The console in memory.
use Rattle.std.specs.Prelude.{◌≡◌, ◌+◌, ◌++◌, ℕ, List, drop}
use Rattle.pm_disk_mem.specs.declared.console.Console.{Console}

-- what is left of the input
abbrev pub input_left : Console → List ℕ
input_left console = drop console.taken console.script.items

-- These bytes were said, and nothing else happened.
pub record Says (old new : Console) (bytes : List ℕ) : Type 0 where
  pub said : new.said.items ≡ old.said.items ++ bytes
  pub script : new.script ≡ old.script
  pub taken : new.taken ≡ old.taken

-- So many bytes of the input were taken, and nothing else happened.
pub record Takes (old new : Console) (count : ℕ) : Type 0 where
  pub said : new.said ≡ old.said
  pub script : new.script ≡ old.script
  pub taken : new.taken ≡ old.taken + count
