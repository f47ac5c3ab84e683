-- The names have nothing to do with the open files.
use Rattle.std.proofs.Common.{ap}
use Rattle.pm_disk_fs.specs.declared.open_files.OpenFiles.{OpenFiles}
use Rattle.pm_disk_fs.proofs.StayingOpen.{others_still}
use Rattle.pm_disk_fs.proofs.store.Store.force.Goals as goal

pub returns-clause-others : goal.returns-clause-others
returns-clause-others g c =
    let File = g.row.R-File.Denot in
    others_still c.args.self.now.open.files.items c.sync.new.self.open.files.items c.sync_names.new.self.open.files.items c.args.name c.in_ok-sync.ensures.others
    (ap (λ (o : OpenFiles File). o.files.items) c.sync_names.ensures.open)
