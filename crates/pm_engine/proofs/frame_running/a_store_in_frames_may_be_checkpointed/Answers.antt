use Rattle.pm_engine.proofs.CheckpointedFrames.{names_run, may_make}
use Rattle.pm_engine.proofs.frame_running.a_store_in_frames_may_be_checkpointed.Goals as goal

pub returns-clause-named : goal.returns-clause-named
returns-clause-named c = λ wanted told from start lines engine s world names logged bytes dirty named has. names_run engine names logged bytes dirty named wanted told from start lines s world has

pub returns-clause-checkpoint : goal.returns-clause-checkpoint
returns-clause-checkpoint c = λ wanted told from start lines engine s world names bytes dirty shape numbered segments has.
    may_make engine names bytes dirty shape numbered segments wanted told from start lines s world has
