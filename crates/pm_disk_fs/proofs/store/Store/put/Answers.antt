-- The file that was written stands after the others.
use Rattle.pm_disk_fs.proofs.TakingOut.{written_last}
use Rattle.pm_disk_fs.proofs.StayingOpen.{others_of_kept}
use Rattle.pm_disk_fs.proofs.Openings.{was_there}
use Rattle.pm_disk_fs.proofs.store.Store.put.Goals as goal

pub returns-clause-wrote : goal.returns-clause-wrote
returns-clause-wrote g c =
    written_last g.R.File.Write.contents c.keep.new.self.files.items c.take.new.self.open.files.items c.write.new.self c.in_ok-file.file.name c.args.name c.args.at c.args.bytes.now c.keep.ensures c.in_ok-write.ensures.written c.in_ok-file.ensures.name

pub returns-clause-others : goal.returns-clause-others
returns-clause-others g c =
    others_of_kept c.args.self.now.open.files.items c.take.new.self.open.files.items c.keep.new.self.files.items c.args.name c.write.new.self c.in_ok-file.ensures.others c.keep.ensures

pub returns-clause-names : goal.returns-clause-names
returns-clause-names g c = λ last. (c.in_ok-file.ensures.names last, was_there g.R.PathCalls.opened _ c.args.self.now.open.files.items c.take.new.self.open.files.items c.args.name c.take.new.self.names_last c.in_ok-file.file c.in_ok-file.ensures.from last)
