use Rattle.std.proofs.Common.{None, refl}
use Rattle.pm_engine.specs.RunningStores.{map_of}
use Rattle.pm_engine.proofs.CheckpointPages.{all_held}
use Rattle.pm_engine.proofs.RunningCheckpoints.{is_mark, may_checkpoint}
use Rattle.pm_engine.proofs.running.a_running_store_may_be_checkpointed.Goals as goal

pub returns-clause-mark : goal.returns-clause-mark
returns-clause-mark c = λ wanted told store s world runs numbered. is_mark wanted told store (map_of store) None s world runs refl numbered

pub returns-clause-held : goal.returns-clause-held
returns-clause-held c = λ wanted told store s world runs. all_held store.shape runs.frames runs.files store.pages store.logged runs.tracks

pub returns-clause-checkpoint : goal.returns-clause-checkpoint
returns-clause-checkpoint c = λ wanted told store s world runs numbered segments. may_checkpoint wanted told store (map_of store) None s world runs refl numbered segments
