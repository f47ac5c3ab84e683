use Rattle.pm_engine.proofs.FramedStores.{lines_step}
use Rattle.pm_engine.proofs.framed_stores.done_lines_are_steps.Goals as goal

pub returns-clause-lines : goal.returns-clause-lines
returns-clause-lines g c = λ number lines store b c was now t has does. lines_step g.R.Device.tells g.R.Device.history t lines number store b c was now has does

pub returns-clause-round : goal.returns-clause-round
returns-clause-round g c = λ number lines store b c was now t has done. lines_step g.R.Device.tells g.R.Device.history t lines number store b c was now has done.does
