-- The segment that was cut is seen after the others.
use Rattle.std.proofs.Common.{rules}
use Rattle.pm_disk_fs.proofs.Viewing.{changed_seen}
use Rattle.pm_disk_fs.proofs.part.FsPartLogFile.cut_log.Goals as goal

pub returns-clause-cut : goal.returns-clause-cut
returns-clause-cut g c = search (rules, changed_seen)
