use Rattle.std.proofs.Common.{◌≡◌, ◌<◌, arith}
use Rattle.pm_frame.proofs.TableRule.{TABLES-entry}
use Rattle.pm_frame.proofs.checksum.shifted.Goals as goal

pub returns : goal.returns
returns c =
    let same : c.from.result ≡ c.args.byte = c.from.ensures in
    let small : c.args.byte < 256 = omega arith in
    rw same (TABLES-entry c.args.zeros c.args.byte c.requires small)
