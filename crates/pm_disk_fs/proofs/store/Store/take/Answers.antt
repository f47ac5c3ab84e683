-- Where the file isn't open no file is taken out.
use Rattle.std.proofs.Common.{◌∙◌, ap}
use Rattle.pm_disk_fs.specs.OpenFiles.{after_oldest}
use Rattle.pm_disk_fs.specs.declared.open_files.OpenFiles.{OpenFiles}
use Rattle.pm_disk_fs.proofs.StayingOpen.{others_of_room, others_still}
use Rattle.pm_disk_fs.proofs.store.Store.take.Goals as goal

pub returns-in_ok-open_to_change-in-None-clause-others : goal.returns-in_ok-open_to_change-in-None-clause-others
returns-in_ok-open_to_change-in-None-clause-others g c =
    let File = g.row.R-File.Denot in
    let old = c.args.self.now.open.files.items in
    let mid = c.make_room.new.self.files.items in
    others_still old mid c.open_to_change.new.self.open.files.items c.args.name
    (others_of_room old mid c.args.name (c.in_ok-make_room-in-None.ensures.oldest ∙ ap after_oldest c.in-None.ensures.taken))
    (ap (λ (o : OpenFiles File). o.files.items) c.in_ok-open_to_change-in-None.ensures.open)
