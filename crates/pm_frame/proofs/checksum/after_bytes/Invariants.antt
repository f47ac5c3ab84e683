use Rattle.std.proofs.Common.{◌≡◌, take, fold}
use Rattle.pm_frame.specs.Crc.{with_byte}
use Rattle.pm_frame.proofs.checksum.after_bytes.Given as goal

abbrev pub invariant-loop-byte : goal.invariant-loop-byte
invariant-loop-byte l = l.register ≡ fold with_byte l.fn.register (take l.byte-index l.bytes)
