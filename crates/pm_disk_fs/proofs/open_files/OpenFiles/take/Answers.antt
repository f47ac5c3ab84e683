-- What is left is what stood before the file and what followed.
use Rattle.std.proofs.Common.{refl}
use Rattle.pm_disk_fs.proofs.StayingOpen.{others_of_taken}
use Rattle.pm_disk_fs.proofs.StillOpened.{among_same, among_taken}
use Rattle.pm_disk_fs.proofs.TakingOut.{taken_out}
use Rattle.pm_disk_fs.proofs.open_files.OpenFiles.take.Goals as goal

pub returns-clause-taken : goal.returns-clause-taken
returns-clause-taken g c =
    taken_out c.args.self.now.files.items c.remove.new.self.items c.in_ok-index.index c.remove.result c.args.name
    c.in_ok-index.ensures.found.0 c.in_ok-index.ensures.found.1 c.remove.ensures.value c.remove.ensures.by_index.2 c.in_ok-index.ensures.latest

pub returns-clause-others : goal.returns-clause-others
returns-clause-others g c = others_of_taken c.args.self.now.files.items c.remove.new.self.items c.args.name c.remove.result (returns-clause-taken g c)

pub returns-in_err-index-clause-left : goal.returns-in_err-index-clause-left
returns-in_err-index-clause-left g c = among_same c.args.self.now.files.items c.args.self.now.files.items refl

pub returns-clause-left : goal.returns-clause-left
returns-clause-left g c = among_taken c.args.self.now.files.items c.remove.new.self.items c.args.name c.remove.result (returns-clause-taken g c)
