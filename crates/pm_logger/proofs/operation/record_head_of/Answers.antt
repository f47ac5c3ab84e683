use Rattle.pm_logger.proofs.RecordBytes.{record_head-said}
use Rattle.pm_logger.proofs.operation.record_head_of.Goals as goal

pub returns : goal.returns
returns c = record_head-said c.args.head.now _ c.told-head c.fits-head c.from_le_bytes-len.ensures
