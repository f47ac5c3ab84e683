-- A failed step has taken nothing.
use Rattle.pm_disk_mem.specs.Hosts.{history_of}
use Rattle.pm_disk_mem.proofs.Recording.{not_done}
use Rattle.pm_disk_mem.proofs.outside.MemHostHost.read.Goals as goal

pub returns-in_err-run-clause-does : goal.returns-in_err-run-clause-does
returns-in_err-run-clause-does c =
    not_done (history_of c.args.self.now) (history_of c.run.new.self) c.run.result c.from_residual-in_err-run.result _ _ c.run.ensures.does c.in_err-run.ensures.unchanged c.from_residual-in_err-run.ensures.0
