-- What is held is the file's content.
use Rattle.std.proofs.Common.{List, ℕ, Option, subst}
use Rattle.pm_disk.specs.Files.{ReadsWhole}
use Rattle.pm_disk_mem.proofs.Holding.{held_is}
use Rattle.pm_disk_mem.proofs.file.MemFile.read_whole.Goals as goal

pub returns : goal.returns
returns c = subst (λ (held : Option (List ℕ)). ReadsWhole held c.args.at c.read_whole.result c.read_whole.new.into) (held_is _ _ _ _ _ c.self.invariant c.self.view_is) c.read_whole.ensures
