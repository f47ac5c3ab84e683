use Rattle.std.proofs.Common.{◌≤◌, ◌-◌, length, take}
use Rattle.pm_disk_fs.specs.Reads.{IsGiven}
use Rattle.pm_disk_fs.proofs.reading.fill.Given as goal

abbrev pub invariant-loop-count : goal.invariant-loop-count
invariant-loop-count g l = record {
  bound : l.count ≤ length l.into;
  given : IsGiven g.F.ReadCalls.gave l.file l.at (take l.count l.into);
}

abbrev pub decreases-loop-count : goal.decreases-loop-count
decreases-loop-count g l = length l.initial.into - l.count
