-- The readers are taken one after the other.
use Rattle.std.proofs.Common.{List, sym, subst, ap, [], ◌∷◌, ◌++◌, take, ◌∙◌}
use Rattle.std.proofs.lemmas.List.{take_more, take_all}
use Rattle.pm_disk_fs.specs.Faults.{JoinsFaults}
use Rattle.pm_disk_fs.specs.Parts.{ReaderView}
use Rattle.pm_disk_fs.proofs.JoinedReaders.{AreJoined, none_joined, one_joined}
use Rattle.pm_disk_fs.proofs.split.join_readers.Given as given
use Rattle.pm_disk_fs.proofs.split.join_readers.Goals as goal

pub loop-reader-init : goal.loop-reader-init
loop-reader-init g c = none_joined c.args.faults.now

pub loop-reader-preserved : goal.loop-reader-preserved
loop-reader-preserved g c =
    let i = c.loop-reader.reader-index in
    let all = c.args.readers.now in
    let item = c.reader-item.result in
    subst (λ (l : List ReaderView). AreJoined c.args.faults.now l c.join.new.self)
    (ap (λ (r : ReaderView). take i all ++ r ∷ []) c.reader-item.is ∙ sym (take_more all i item c.loop-reader-test.true))
    (one_joined c.args.faults.now c.loop-reader.faults c.join.new.self (take i all) item c.loop-reader.invariant
    (subst (λ (r : ReaderView). JoinsFaults c.loop-reader.faults r.faults c.join.new.self) c.reader.view_is c.join.ensures))

-- all of them at the end
at_end : (g : given.Over) (c : goal.After-loop-reader g) → AreJoined c.args.faults.now c.args.readers.now c.loop-reader.faults
at_end g c = subst (λ (l : List ReaderView). AreJoined c.args.faults.now l c.loop-reader.faults) (take_all c.loop-reader.reader-index c.args.readers.now c.loop-reader-test.false) c.loop-reader.invariant

pub returns-clause-later : goal.returns-clause-later
returns-clause-later g c = (at_end g c).later

pub returns-clause-same : goal.returns-clause-same
returns-clause-same g c = (at_end g c).same

pub returns-clause-rose : goal.returns-clause-rose
returns-clause-rose g c = (at_end g c).rose

pub returns-clause-kept : goal.returns-clause-kept
returns-clause-kept g c = (at_end g c).kept
