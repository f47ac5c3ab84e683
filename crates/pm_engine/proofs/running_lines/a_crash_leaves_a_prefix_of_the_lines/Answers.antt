use Rattle.pm_engine.proofs.CheckpointedLines.{between_crash}
use Rattle.pm_engine.proofs.running_lines.a_crash_leaves_a_prefix_of_the_lines.Goals as goal

pub returns : goal.returns
returns c = λ wanted told from start lines others store new s world now steps has can after some. between_crash wanted told from start lines others store new s world now steps has can after some
