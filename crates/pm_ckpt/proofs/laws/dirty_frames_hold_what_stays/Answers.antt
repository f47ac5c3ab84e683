use Rattle.pm_ckpt.proofs.StayingPages.{dirty_stays}
use Rattle.pm_ckpt.proofs.laws.dirty_frames_hold_what_stays.Goals as goal

pub returns : goal.returns
returns c = dirty_stays
