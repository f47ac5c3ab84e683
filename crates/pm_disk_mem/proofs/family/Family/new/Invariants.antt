use Rattle.std.proofs.Common.{◌≡◌, ◌++◌, Some}
use Rattle.pm_disk_mem.specs.Tracks.{new_track}
use Rattle.pm_disk_mem.specs.Disks.{seen}
use Rattle.pm_disk_mem.proofs.family.Family.new.Given as goal

abbrev pub invariant-loop-number : goal.invariant-loop-number
invariant-loop-number l = l.family.files.entries ++ seen (λ v. new_track (Some v.items)) l.number-iterator ≡ seen (λ v. new_track (Some v.items)) l.initial.number-iterator
