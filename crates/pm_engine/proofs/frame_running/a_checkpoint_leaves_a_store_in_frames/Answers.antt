use Rattle.pm_engine.proofs.CheckpointedFrames.{leads}
use Rattle.pm_engine.proofs.frame_running.a_checkpoint_leaves_a_store_in_frames.Goals as goal

pub returns : goal.returns
returns c = λ wanted told from start lines before after s world now names bytes dirty shape numbered segments has can writings order guards state is next done clean.
    leads before names bytes dirty shape numbered segments wanted told from start lines s world has can writings order guards state after now is next done.shape done.none_dirty (done.as_files tt clean)
