use Rattle.pm_logger.proofs.RecordBytes.{operation_head-said}
use Rattle.pm_logger.proofs.operation.operation_head_of.Goals as goal

pub returns : goal.returns
returns c = operation_head-said c.args.head.now _ _ c.told-head c.fits-head c.from_le_bytes-line.ensures c.from_le_bytes-len.ensures
