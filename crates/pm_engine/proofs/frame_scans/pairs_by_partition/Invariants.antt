use Rattle.std.specs.Vec.{vec_capacity}
use Rattle.pm_engine.proofs.FrameScans.{ReadSoFar}
use Rattle.pm_engine.proofs.frame_scans.pairs_by_partition.Given as goal

-- the pairs of the partitions that were passed are read
abbrev pub invariant-each : goal.invariant-each
invariant-each g l = ReadSoFar g.R.Device.tells g.R.Device.history g.R.Device.state l.shape l.cache l.fn.bound l.bound l.found.items (vec_capacity l.found) l.part
