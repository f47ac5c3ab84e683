use Rattle.std.proofs.Common.{take}
use Rattle.pm_disk_fs.proofs.JoinedReaders.{AreJoined}
use Rattle.pm_disk_fs.proofs.split.join_readers.Given as goal

abbrev pub invariant-loop-reader : goal.invariant-loop-reader
invariant-loop-reader g l = AreJoined l.fn.faults (take l.reader-index l.readers) l.faults
