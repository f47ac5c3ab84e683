use Rattle.std.proofs.Common.{take}
use Rattle.pm_disk_mem.proofs.JoinedReaders.{AreJoined}
use Rattle.pm_disk_mem.proofs.split.join_readers.Given as goal

abbrev pub invariant-loop-reader : goal.invariant-loop-reader
invariant-loop-reader l = AreJoined l.fn.failures (take l.reader-index l.readers) l.failures
