use Rattle.pm_core.proofs.LogCalls.{log_worlds, prefix}
use Rattle.pm_core.proofs.laws.calls_of_the_log_are_steps.Goals as goal

pub returns-clause-worlds : goal.returns-clause-worlds
returns-clause-worlds c = λ steps s world. log_worlds steps s world

pub returns-clause-moment : goal.returns-clause-moment
returns-clause-moment c = λ steps s world now some. prefix steps s world now some
