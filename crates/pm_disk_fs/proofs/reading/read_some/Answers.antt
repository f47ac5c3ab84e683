-- A read that failed has consumed nothing.
use Rattle.pm_disk_fs.proofs.Fills.{keeps-keeps}
use Rattle.pm_disk_fs.proofs.reading.read_some.Goals as goal

pub returns-in_default-clause-bytes : goal.returns-in_default-clause-bytes
returns-in_default-clause-bytes g c =
    let left = g.F.Read.remaining in
    keeps-keeps (left c.args.from.now) (left c.loop.from) (left c.read.new.self) c.loop.invariant c.in-Err.ensures.bytes
