-- What is held is the file's content.
use Rattle.std.proofs.Common.{List, ℕ, Option, subst}
use Rattle.pm_disk.specs.Files.{ReadsFrom}
use Rattle.pm_disk_mem.proofs.Holding.{held_is}
use Rattle.pm_disk_mem.proofs.file.MemFile.read.Goals as goal

pub returns-clause-reads : goal.returns-clause-reads
returns-clause-reads c = subst (λ (held : Option (List ℕ)). ReadsFrom held c.args.at c.read.result c.read.new.into) (held_is _ _ _ _ _ c.self.invariant c.self.view_is) c.read.ensures.reads
