use Rattle.pm_frame.proofs.HeadBytes.{head_bytes-said}
use Rattle.pm_frame.proofs.head.Head.of.Goals as goal

pub returns : goal.returns
returns c =
    head_bytes-said c.args.bytes.now c.from_le_bytes.result c.from_le_bytes-2.result c.from_le_bytes-3.result c.told-bytes c.fits-bytes c.from_le_bytes.ensures c.from_le_bytes-2.ensures c.from_le_bytes-3.ensures
