use Rattle.pm_engine.proofs.FramedEdits.{framed_within}
use Rattle.pm_engine.proofs.handed_pages.edits_in_frames_are_noted.Goals as goal

pub returns : goal.returns
returns g c = λ b c told ready none keeps edits fit. framed_within g.R.Device.tells g.R.Device.history g.R.Device.state b c told ready none keeps edits fit
