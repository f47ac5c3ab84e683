-- When each status comes, which folder is bound, and whether one may be made, as every host reports it.
use Rattle.std.specs.Prelude.{◌≡◌, ◌≤◌, ◌⊎◌, ℕ, List, Option, Some, None, Bool, true, false, IsTrue}
use Rattle.pm_disk.specs.States.{DeviceState, Rose}
use Rattle.pm_top.specs.declared.status.Status.{Status}
use Rattle.pm_top.specs.declared.status.Status.TheVariants.{Usage, Failed, Memory}
use Rattle.pm_top.specs.declared.words.CommandName.{CommandName}
use Rattle.pm_top.specs.declared.words.CommandName.TheVariants.{Run, Wal, Verify, Gen}
use Rattle.pm_top.specs.Words.{command_in, is_command, folder_in}

-- whether a command makes its folder where that isn't there
abbrev pub makes_folder : Option CommandName → Bool
makes_folder None = false
makes_folder (Some Run) = true
makes_folder (Some Wal) = false
makes_folder (Some Verify) = false
makes_folder (Some (Gen seed count)) = true

-- Which folder is bound after a call. Where the words are a command it is their second word, or, where it
-- couldn't be bound, the one that was bound before; or memory ran out before anything was done. Where they
-- aren't, none was bound. Only a command that makes its folder may have made one, whatever the status.
pub record BindsFolder (words : List (List ℕ)) (status : Status) (before now : DeviceState) : Type 0 where
  pub bound : IsTrue (is_command words)
      → (now.access ≡ record before.access { folder = Some (folder_in words); made = now.access.made })
      ⊎ ((now.access ≡ record before.access { made = now.access.made }) × (status ≡ Failed))
      ⊎ ((now ≡ before) × (status ≡ Memory))
  pub none : is_command words ≡ false → now.access ≡ before.access
  pub made : before.access.made ≤ now.access.made
  pub none_made : makes_folder (command_in words) ≡ false → now.access.made ≡ before.access.made

-- `Usage` comes exactly where the words aren't a command, unless printing that fails or memory runs out.
-- `Failed` comes only after a failed call.
pub record HasStatusCause (words : List (List ℕ)) (status : Status) (before now : DeviceState) : Type 0 where
  pub usage : status ≡ Usage → is_command words ≡ false
  pub refused : is_command words ≡ false → (status ≡ Usage) ⊎ (status ≡ Failed) ⊎ (status ≡ Memory)
  pub failed : status ≡ Failed → Rose before now
