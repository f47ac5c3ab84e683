use Rattle.std.proofs.Common.{◌≡◌, ◌-◌, ◌^◌, length, fold}
use Rattle.pm_frame.specs.Crc.{with_byte}
use Rattle.pm_frame.proofs.checksum.sum.Given as goal

abbrev pub invariant-loop-block : goal.invariant-loop-block
invariant-loop-block l = fold with_byte l.register l.rest ≡ fold with_byte (2 ^ 32 - 1) l.bytes

abbrev pub decreases-loop-block : goal.decreases-loop-block
decreases-loop-block l = length l.rest
