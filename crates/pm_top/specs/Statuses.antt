-- The numbers of statuses.
use Rattle.std.specs.Prelude.{ℕ, ◌==◌, if◌then◌else◌}
use Rattle.pm_top.specs.declared.status.Status.{Status}
use Rattle.pm_top.specs.declared.status.Status.TheVariants.{Done, Usage, Misconfigured, Failed, Memory}
use Rattle.pm_top.specs.declared.status.Status.TheVariants.{Damaged, Long}

-- the number of a status
abbrev pub code_of : Status → ℕ
code_of Done = 0
code_of Usage = 1
code_of Misconfigured = 2
code_of Failed = 3
code_of Memory = 4
code_of Damaged = 5
code_of Long = 6

-- the status with a number
abbrev pub status_of : ℕ → Status
status_of n = if n == 0 then Done else if n == 1 then Usage else if n == 2 then Misconfigured else if n == 3 then Failed else if n == 5 then Damaged else if n == 6 then Long else Memory
