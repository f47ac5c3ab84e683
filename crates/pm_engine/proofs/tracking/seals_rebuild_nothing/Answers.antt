use Rattle.pm_engine.proofs.SealedFrames.{tracks_sealed}
use Rattle.pm_engine.proofs.tracking.seals_rebuild_nothing.Goals as goal

pub returns : goal.returns
returns c = λ shape frames others files pages logged well well_too same tracks. tracks_sealed shape frames others files pages logged well well_too same tracks
