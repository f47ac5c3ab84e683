use Rattle.std.proofs.Common.{◌≡◌, ◌+◌, arith}
use Rattle.pm_frame.proofs.Blocks.{shifted_by-word}
use Rattle.pm_frame.proofs.checksum.shifted_out.Goals as goal

pub returns : goal.returns
returns c =
    let last : c.args.zeros + 0 ≡ c.args.zeros = omega arith in
    let e = shifted_by-word c.args.zeros c.args.word c.to_le_bytes-bytes.result (omega arith) c.to_le_bytes-bytes.ensures in
    cc
