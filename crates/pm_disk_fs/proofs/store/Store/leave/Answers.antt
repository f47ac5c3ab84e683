-- Each file that was open once what is buffered was written is synced.
use Rattle.std.proofs.Common.{ap}
use Rattle.pm_disk_fs.specs.declared.open_files.OpenFiles.{OpenFiles}
use Rattle.pm_disk_fs.proofs.Leaving.{leaves_synced}
use Rattle.pm_disk_fs.proofs.store.Store.leave.Goals as goal

pub returns-clause-forced : goal.returns-clause-forced
returns-clause-forced g c =
    let File = g.row.R-File.Denot in
    leaves_synced g.R.File.Write.contents g.R.File.FileCalls.synced c.args.self.now.writes.buffer c.args.self.now.open.files.items c.flush.new.self.open.files.items
    (λ none. ap (λ (o : OpenFiles File). o.files.items) (c.flush.ensures.idle none))
    c.in_ok-flush.ensures.others c.in_ok-flush.ensures.wrote c.in_ok-force.ensures.synced
