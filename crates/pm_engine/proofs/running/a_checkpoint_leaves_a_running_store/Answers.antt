use Rattle.std.proofs.Common.{None, refl}
use Rattle.pm_engine.specs.RunningStores.{map_of}
use Rattle.pm_engine.proofs.CheckpointedStores.{store_checkpointed}
use Rattle.pm_engine.proofs.running.a_checkpoint_leaves_a_running_store.Goals as goal

pub returns : goal.returns
returns c = λ wanted told store s world runs numbered segments can writings guards leaves. store_checkpointed wanted told store (map_of store) None s world runs refl numbered segments can writings guards leaves
