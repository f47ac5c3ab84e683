use Rattle.pm_engine.proofs.CheckpointedLines.{checkpoint_has_run}
use Rattle.pm_engine.proofs.running_lines.a_checkpoint_keeps_the_lines.Goals as goal

pub returns : goal.returns
returns c = λ wanted told from start lines store s world has numbered segments can writings guards leaves. checkpoint_has_run wanted told from start lines store s world has numbered segments can writings guards leaves
