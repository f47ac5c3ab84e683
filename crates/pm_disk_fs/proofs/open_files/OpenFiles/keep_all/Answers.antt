-- One more file stands after the others, unless as many are open as may be.
use Rattle.std.proofs.Common.{◌≡◌, ◌∙◌, ◌≤◌, ◌+◌, ◌++◌, List, length, sym, subst}
use Rattle.std.proofs.lemmas.List.{append-nil}
use Rattle.pm_disk_fs.specs.declared.opened.Opened.{Opened}
use Rattle.pm_disk_fs.specs.declared.open_files.TheConstants.{OPEN_MAX}
use Rattle.pm_disk_fs.proofs.TakingOut.{taken_all}
use Rattle.pm_disk_fs.proofs.StayingOpen.{still_all}
use Rattle.pm_disk_fs.proofs.open_files.OpenFiles.keep_all.Goals as goal

pub loop-file-init : goal.loop-file-init
loop-file-init g c = λ fits. sym (append-nil c.args.self.now.files.items)

pub loop-file-preserved : goal.loop-file-preserved
loop-file-preserved g c = λ fits.
    still_all c.args.self.now.files.items c.loop-file.yielded c.loop-file.self.files.items c.make_room.new.self.files.items c.keep.new.self.files.items c.in-Some.file fits c.loop-file.invariant c.in_ok-make_room.ensures.oldest c.keep.ensures

pub returns-clause-kept : goal.returns-clause-kept
returns-clause-kept g c =
    let first = c.args.self.now.files.items in
    let given = c.into_iter-file-iterator in
    let all : c.loop-file.yielded ≡ c.args.more.files.items = taken_all given.result c.loop-file.yielded c.loop-file.file-iterator c.loop-file.yielded_by c.in-None.ensures.steps.0 ∙ given.ensures.into_iter_gives.0 in
    subst (λ (l : List (Opened g.row.F.Denot)). length first + length l ≤ OPEN_MAX → c.loop-file.self.files.items ≡ first ++ l) all c.loop-file.invariant
