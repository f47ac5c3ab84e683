use Rattle.std.proofs.lemmas.Result.{err_from_is_err_and}
use Rattle.pm_logger.specs.Writers.{writer}
use Rattle.pm_logger.proofs.Taking.{kept_appended, taken_then, taken_block}
use Rattle.pm_logger.proofs.inbox.Inbox.take_block.Goals as goal

pub returns-in_err-append_kept-clause-appended : goal.returns-in_err-append_kept-clause-appended
returns-in_err-append_kept-clause-appended g c =
    let p = err_from_is_err_and c.from_residual.result c.from_residual.ensures.1 in
    rw p.1 (kept_appended c.append_kept.ensures.ring c.in_err-append_kept.ensures.appended)

pub returns-in-Begun-clause-appended : goal.returns-in-Begun-clause-appended
returns-in-Begun-clause-appended g c =
    let between = writer (g.L.Device.history c.append_kept.new.dev) c.append_kept.new.log c.append_kept.new.tally in
    let front = c.in_ok-append_kept.ensures.appended in
    taken_then (kept_appended c.append_kept.ensures.ring front) (taken_block between c.take_next.ensures (g.L.Device.sound c.append_kept.new.dev) front.appends.makes.ends)

pub returns-in-Bad-clause-appended : goal.returns-in-Bad-clause-appended
returns-in-Bad-clause-appended g c = kept_appended c.append_kept.ensures.ring c.in_ok-append_kept.ensures.appended

pub returns-in-Full-clause-appended : goal.returns-in-Full-clause-appended
returns-in-Full-clause-appended g c = kept_appended c.append_kept.ensures.ring c.in_ok-append_kept.ensures.appended
