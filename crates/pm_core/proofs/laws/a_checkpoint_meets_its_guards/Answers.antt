use Rattle.pm_core.proofs.Finishing.{begin_can, finish_can}
use Rattle.pm_core.proofs.laws.a_checkpoint_meets_its_guards.Goals as goal

pub returns-clause-begin : goal.returns-clause-begin
returns-clause-begin c = λ told mark rebuilt s world can. begin_can told mark rebuilt s world can

pub returns-clause-finish : goal.returns-clause-finish
returns-clause-finish c = λ wanted told mark pages s world stands can. finish_can wanted told mark pages s world stands can
