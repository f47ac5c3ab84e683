-- What is buffered is written first.
use Rattle.std.proofs.Common.{ap}
use Rattle.std.proofs.lemmas.Result.{on_ok_weaker}
use Rattle.pm_disk_fs.specs.declared.open_files.OpenFiles.{OpenFiles}
use Rattle.pm_disk_fs.proofs.ForcedSegments.{forces_segment}
use Rattle.pm_disk_fs.proofs.store.Store.force_log.Goals as goal

pub returns-clause-forced : goal.returns-clause-forced
returns-clause-forced g c =
    let File = g.row.R-File.Denot in
    let flushed = c.in_ok-flush.ensures in
    on_ok_weaker c.force.result
    (forces_segment g.R.File.Write.contents g.R.File.FileCalls.synced _ c.args.self.now.writes.buffer c.args.self.now.open.files.items c.flush.new.self.open.files.items c.force.new.self.open.files.items c.args.seg
    flushed.wrote (λ none. ap (λ (o : OpenFiles File). o.files.items) (flushed.idle none)) flushed.others)
    c.force.ensures.forced
