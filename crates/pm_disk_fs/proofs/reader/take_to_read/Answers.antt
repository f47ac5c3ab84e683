-- Those that are left were opened at the paths of their names, and so was the one that was taken out.
use Rattle.pm_disk_fs.proofs.StillOpened.{opened_among, opened_twice, opened_taken}
use Rattle.pm_disk_fs.proofs.reader.take_to_read.Goals as goal

pub returns-in-Some-clause-opened : goal.returns-in-Some-clause-opened
returns-in-Some-clause-opened g c =
    opened_taken _ _ c.args.files.now.files.items c.take.new.self.files.items c.args.name c.in-Some.file c.requires c.in-Some.ensures.taken

pub returns-in-Some-clause-left : goal.returns-in-Some-clause-left
returns-in-Some-clause-left g c = opened_among _ _ c.args.files.now.files.items c.take.new.self.files.items c.requires c.take.ensures.left

pub returns-in_err-make_room-clause-left : goal.returns-in_err-make_room-clause-left
returns-in_err-make_room-clause-left g c =
    opened_twice _ _ c.args.files.now.files.items c.take.new.self.files.items c.make_room.new.self.files.items c.requires c.take.ensures.left c.make_room.ensures.left

pub returns-in_err-file-clause-left : goal.returns-in_err-file-clause-left
returns-in_err-file-clause-left g c =
    opened_twice _ _ c.args.files.now.files.items c.take.new.self.files.items c.make_room.new.self.files.items c.requires c.take.ensures.left c.make_room.ensures.left

pub returns-in-Some-2-clause-left : goal.returns-in-Some-2-clause-left
returns-in-Some-2-clause-left g c =
    opened_twice _ _ c.args.files.now.files.items c.take.new.self.files.items c.make_room.new.self.files.items c.requires c.take.ensures.left c.make_room.ensures.left

pub returns-in-None-clause-left : goal.returns-in-None-clause-left
returns-in-None-clause-left g c =
    opened_twice _ _ c.args.files.now.files.items c.take.new.self.files.items c.make_room.new.self.files.items c.requires c.take.ensures.left c.make_room.ensures.left
