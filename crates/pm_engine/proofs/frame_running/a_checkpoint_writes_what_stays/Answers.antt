use Rattle.pm_engine.proofs.FrameDirty.{lists_dirty}
use Rattle.pm_engine.proofs.frame_running.a_checkpoint_writes_what_stays.Goals as goal

pub returns : goal.returns
returns c = λ store is opens empty. lists_dirty store is (is.open_is opens) empty
