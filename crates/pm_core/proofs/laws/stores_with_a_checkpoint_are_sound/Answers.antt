use Rattle.pm_core.proofs.Exhibits.{has_ended, has_started}
use Rattle.pm_core.proofs.laws.stores_with_a_checkpoint_are_sound.Goals as goal

pub returns-clause-ended : goal.returns-clause-ended
returns-clause-ended c = λ wanted shape shaped. has_ended wanted shape shaped

pub returns-clause-started : goal.returns-clause-started
returns-clause-started c = λ wanted shape shaped. has_started wanted shape shaped
