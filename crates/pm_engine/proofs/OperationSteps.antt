-- Appends of an operation's records as steps of the disk machine.
use Rattle.std.proofs.Common.{List, Result, sym, ◌∙◌}
use Rattle.std.proofs.lemmas.Result.{on_ok_weaker}
use Rattle.pm_disk.specs.Moments.{History}
use Rattle.pm_disk.proofs.Chain.{weaker}
use Rattle.pm_records.specs.LogSteps.{Step, DoesPrefix, DoesSteps}
use Rattle.pm_core.specs.Calls.{MakesPrefix, MakesSteps}
use Rattle.pm_core.specs.Rounds.{on_log}
use Rattle.pm_core.specs.States.{State}
use Rattle.pm_core.proofs.LogCalls.{log_worlds, prefix}

-- steps of the log, made from where the machine's log ends
pub machine_steps : {T E : Type 0} (old new : History) (result : Result T E) (steps : List Step) (s : State) → DoesSteps {T = T} {E = E} old new result steps s.end → MakesSteps {T = T} {E = E} old new result (on_log steps) s
machine_steps old new result steps s does = record {
  all = on_ok_weaker result (λ is. is ∙ sym (log_worlds steps s old.world)) does.all;
  moments = weaker old new (DoesPrefix steps s.end old.world) (MakesPrefix (on_log steps) s old.world) (λ w some. prefix steps s old.world w some) does.moments;
}
