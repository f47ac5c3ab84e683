-- Whether the folder of a store in memory is there.
use Rattle.std.specs.Prelude.{ℕ}
use Rattle.pm_disk_mem.specs.declared.presence.Presence.{Presence}
use Rattle.pm_disk_mem.specs.declared.presence.Presence.TheVariants.{Found, Missing, Made}

-- how many folders were made
abbrev pub made_by : Presence → ℕ
made_by Found = 0
made_by Missing = 0
made_by Made = 1

-- once the folder is bound by a call that makes it where it isn't there
abbrev pub once_bound : Presence → Presence
once_bound Found = Found
once_bound Missing = Made
once_bound Made = Made
