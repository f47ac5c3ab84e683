-- The readers are taken one after the other.
use Rattle.std.proofs.Common.{List, sym, subst, ap, [], ◌∷◌, ◌++◌, take, ◌∙◌}
use Rattle.std.proofs.lemmas.List.{take_more, take_all}
use Rattle.pm_disk_mem.specs.declared.reader.MemReader.{MemReader}
use Rattle.pm_disk_mem.proofs.JoinedReaders.{AreJoined, none_joined, one_joined}
use Rattle.pm_disk_mem.proofs.split.join_readers.Goals as goal

pub loop-reader-init : goal.loop-reader-init
loop-reader-init c = none_joined c.args.failures.now

pub loop-reader-preserved : goal.loop-reader-preserved
loop-reader-preserved c =
    let i = c.loop-reader.reader-index in
    let all = c.args.readers.now in
    let item = c.reader-item.result in
    subst (λ (l : List MemReader). AreJoined c.args.failures.now l c.join.new.self)
    (ap (λ (r : MemReader). take i all ++ r ∷ []) c.reader-item.is ∙ sym (take_more all i item c.loop-reader-test.true))
    (one_joined c.args.failures.now c.loop-reader.failures c.join.new.self (take i all) item c.loop-reader.invariant c.join.ensures)

-- all of them at the end
at_end : (c : goal.After-loop-reader) → AreJoined c.args.failures.now c.args.readers.now c.loop-reader.failures
at_end c = subst (λ (l : List MemReader). AreJoined c.args.failures.now l c.loop-reader.failures) (take_all c.loop-reader.reader-index c.args.readers.now c.loop-reader-test.false) c.loop-reader.invariant

pub returns-clause-calls : goal.returns-clause-calls
returns-clause-calls c = (at_end c).calls

pub returns-clause-later : goal.returns-clause-later
returns-clause-later c = (at_end c).later

pub returns-clause-same : goal.returns-clause-same
returns-clause-same c = (at_end c).same

pub returns-clause-rose : goal.returns-clause-rose
returns-clause-rose c = (at_end c).rose

pub returns-clause-plan : goal.returns-clause-plan
returns-clause-plan c = (at_end c).plan
