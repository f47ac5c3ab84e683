-- The file that was written is seen after the others.
use Rattle.std.proofs.Common.{rules}
use Rattle.pm_disk_fs.proofs.Viewing.{written_seen}
use Rattle.pm_disk_fs.proofs.part.FsPartPageWriter.write_page.Goals as goal

pub returns-clause-wrote : goal.returns-clause-wrote
returns-clause-wrote g c = search (rules, written_seen)
