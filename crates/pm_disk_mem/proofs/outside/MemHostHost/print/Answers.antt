-- The bytes of the step are those that were passed.
use Rattle.std.proofs.Common.{List, ℕ, subst}
use Rattle.pm_disk.specs.Worlds.{with_said}
use Rattle.pm_disk.specs.Moments.{Does}
use Rattle.pm_disk.specs.declared.failed.Failed.{Failed}
use Rattle.pm_disk_mem.specs.Hosts.{history_of}
use Rattle.pm_disk_mem.proofs.Recording.{says_done}
use Rattle.pm_disk_mem.proofs.outside.MemHostHost.print.Goals as goal

pub returns-clause-says : goal.returns-clause-says
returns-clause-says c =
    let old = history_of c.args.self.now in
    let new = history_of c.run.new.self in
    says_done old new c.run.result c.args.bytes.now (subst (λ (l : List ℕ). Does {T = Unit {0}} {E = Failed} old new c.run.result (with_said l old.world)) (rw c.in_ok-copy.ensures.value at c.from_slice.ensures.items) c.run.ensures.does)
