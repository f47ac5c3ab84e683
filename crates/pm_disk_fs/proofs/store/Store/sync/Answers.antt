-- The file that was forced stands after the others.
use Rattle.std.proofs.Common.{◌++◌, ◌∷◌, [], ◌∙◌, ap, inr}
use Rattle.pm_disk_fs.proofs.StayingOpen.{others_of_kept}
use Rattle.pm_disk_fs.proofs.store.Store.sync.Goals as goal

pub returns-clause-others : goal.returns-clause-others
returns-clause-others g c =
    others_of_kept c.args.self.now.open.files.items c.take.new.self.files.items c.keep.new.self.files.items c.args.name c.force.new.self c.take.ensures.others c.keep.ensures

pub returns-clause-forced : goal.returns-clause-forced
returns-clause-forced g c =
    let taken = c.in-Some.ensures.taken in
    inr (record {
      before = taken.before;
      was = c.in-Some.file;
      after = taken.after;
      stood = taken.was;
      latest = taken.latest;
      file = c.force.new.self;
      last = c.keep.ensures ∙ ap (λ l. l ++ c.force.new.self ∷ []) taken.is;
      named = c.in_ok-force.ensures.name ∙ taken.named;
      same = c.in_ok-force.ensures.same;
      is_synced = c.in_ok-force.ensures.synced;
      forced = c.in_ok-force.ensures.forced;
    })
