-- Those that are left were there before.
use Rattle.std.proofs.Common.{refl}
use Rattle.pm_disk_fs.proofs.StillOpened.{among_same, among_removed}
use Rattle.pm_disk_fs.proofs.open_files.OpenFiles.close_oldest.Goals as goal

pub returns-then-len-ne-OPEN_MAX-clause-left : goal.returns-then-len-ne-OPEN_MAX-clause-left
returns-then-len-ne-OPEN_MAX-clause-left g c = among_same c.args.self.now.files.items c.args.self.now.files.items refl

pub returns-clause-left : goal.returns-clause-left
returns-clause-left g c = among_removed c.remove.new.self.items c.args.self.now.files.items c.remove.ensures.items
