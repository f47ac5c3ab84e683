-- The file that was cut stands after the others.
use Rattle.std.proofs.Common.{◌∙◌}
use Rattle.pm_disk_fs.proofs.StayingOpen.{others_of_kept}
use Rattle.pm_disk_fs.proofs.Openings.{was_there}
use Rattle.pm_disk_fs.proofs.store.Store.cut.Goals as goal

pub returns-clause-others : goal.returns-clause-others
returns-clause-others g c =
    others_of_kept c.args.self.now.open.files.items c.take.new.self.open.files.items c.keep.new.self.files.items c.args.name c.cut.new.self c.in_ok-file.ensures.others c.keep.ensures

pub returns-clause-cut : goal.returns-clause-cut
returns-clause-cut g c = record {
  before = c.take.new.self.open.files.items;
  file = c.cut.new.self;
  last = c.keep.ensures;
  named = c.in_ok-cut.ensures.name ∙ c.in_ok-file.ensures.name;
  unforced = c.in_ok-cut.ensures.changed;
}

pub returns-clause-names : goal.returns-clause-names
returns-clause-names g c = λ last. (c.in_ok-file.ensures.names last, was_there g.R.PathCalls.opened _ c.args.self.now.open.files.items c.take.new.self.open.files.items c.args.name c.take.new.self.names_last c.in_ok-file.file c.in_ok-file.ensures.from last)
