use Rattle.pm_engine.proofs.TrackedFrames.{tracks_none, tracks_restart}
use Rattle.pm_engine.proofs.tracking.tracking_begins.Goals as goal

pub returns-clause-checkpoint : goal.returns-clause-checkpoint
returns-clause-checkpoint c = λ shape files pages same. tracks_none shape files pages same

pub returns-clause-restart : goal.returns-clause-restart
returns-clause-restart c = λ shape told frames frame files pages well is same. tracks_restart shape frames frame told files pages well is same
