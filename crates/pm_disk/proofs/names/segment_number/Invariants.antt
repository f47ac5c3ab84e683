use Rattle.std.proofs.Common.{◌≡◌, ◌/◌, ◌-◌, ◌^◌, ℕ}
use Rattle.pm_disk.specs.Names.{IsSegmentName}
use Rattle.pm_disk.proofs.names.segment_number.Given as goal

abbrev pub invariant-loop-digit : goal.invariant-loop-digit
invariant-loop-digit l = (seg : ℕ) → IsSegmentName l.name seg → l.seg ≡ seg / 16 ^ (16 - l.digit-index)
