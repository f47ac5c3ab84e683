-- Each change could be made, so each that is pending.
use Rattle.pm_disk_mem.proofs.Holding.{can_since}
use Rattle.pm_disk_mem.proofs.file.MemFile.left.Goals as goal

pub returns-clause-could : goal.returns-clause-could
returns-clause-could c = can_since _ _ _ _ _ c.self.invariant c.self.view_is
