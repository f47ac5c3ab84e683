-- The segment that was forced is seen after the others.
use Rattle.std.proofs.Common.{subst}
use Rattle.std.specs.Prelude.{OnOk}
use Rattle.pm_disk_fs.specs.Parts.{PartView}
use Rattle.pm_disk_fs.specs.OpenViews.{SegmentForced}
use Rattle.pm_disk_fs.proofs.Viewing.{force_log_seen}
use Rattle.pm_disk_fs.proofs.part.FsPartLogFile.force_log.Goals as goal

pub returns-clause-forced : goal.returns-clause-forced
returns-clause-forced g c =
    let was = c.self.inside.store in
    subst (λ (view : PartView). OnOk c.counted.result (SegmentForced view.writes.buffer view.files c.counted.new.self.files c.args.seg)) c.self.view_is
    (force_log_seen c.force_log-forced.result c.counted.result _ was.writes.buffer was.open.files.items c.force_log-forced.new.self.open.files.items c.args.seg c.counted.new.self.files
    c.counted.ensures.value c.force_log-forced.ensures.forced c.counted.ensures.files)
