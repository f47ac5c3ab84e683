use Rattle.std.proofs.lemmas.Result.{err_from_is_err_and}
use Rattle.pm_logger.proofs.Taking.{given_kept, given_piece}
use Rattle.pm_logger.proofs.inbox.Inbox.take_piece.Goals as goal

pub returns-in_err-append_kept-clause-appended : goal.returns-in_err-append_kept-clause-appended
returns-in_err-append_kept-clause-appended g c =
    let p = err_from_is_err_and c.from_residual.result c.from_residual.ensures.1 in
    rw p.1 (given_kept c.append_kept.ensures.ring c.in_err-append_kept.ensures.appended)

pub returns-in-Begun-clause-appended : goal.returns-in-Begun-clause-appended
returns-in-Begun-clause-appended g c =
    let front = c.in_ok-append_kept.ensures.appended in
    given_piece c.append_kept.ensures.ring c.keep.ensures.kept (g.L.Device.sound c.append_kept.new.dev) front.appends.makes.ends front

pub returns-in-Bad-clause-appended : goal.returns-in-Bad-clause-appended
returns-in-Bad-clause-appended g c = given_kept c.append_kept.ensures.ring c.in_ok-append_kept.ensures.appended

pub returns-in-Full-clause-appended : goal.returns-in-Full-clause-appended
returns-in-Full-clause-appended g c = given_kept c.append_kept.ensures.ring c.in_ok-append_kept.ensures.appended
