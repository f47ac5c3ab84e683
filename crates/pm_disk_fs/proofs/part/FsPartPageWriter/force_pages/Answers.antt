-- The file that was forced is seen after the others.
use Rattle.std.proofs.Common.{ap}
use Rattle.pm_disk.specs.declared.names.StoreFile.TheVariants.{Pages}
use Rattle.pm_disk_fs.specs.Parts.{PartView}
use Rattle.pm_disk_fs.proofs.Viewing.{force_seen}
use Rattle.pm_disk_fs.proofs.part.FsPartPageWriter.force_pages.Goals as goal

pub returns-clause-forced : goal.returns-clause-forced
returns-clause-forced g c =
    force_seen c.force-forced.result c.counted.result (Pages c.args.part) _ _ c.self.inside.store.open.files.items c.force-forced.new.self.open.files.items c.args.self.now.files c.counted.new.self.files c.counted.ensures.value
    c.force-forced.ensures.forced (ap (λ (view : PartView). view.files) c.self.view_is) c.counted.ensures.files
