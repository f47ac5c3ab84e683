use Rattle.pm_stripe.proofs.CoveredPages.{are_covered}
use Rattle.pm_stripe.proofs.IdlePages.{readable_begun, ended_idle}
use Rattle.pm_bench.proofs.worker_pages.operations.look.Goals as goal

pub has_bytes-is_there-requires-clause-readable : goal.has_bytes-is_there-requires-clause-readable
has_bytes-is_there-requires-clause-readable g c = readable_begun g.R.Device.tells g.R.Device.history g.R.Device.state c.args.pages.now c.ready.new.self c.in_ok-ready.ensures.makes c.requires.idle.readable

pub done-requires-clause-covered : goal.done-requires-clause-covered
done-requires-clause-covered g c =
    are_covered g.R.Device.tells g.R.Device.history g.R.Device.state c.ready.new.self c.has_bytes-is_there.new.pages (c.in_ok-ready.ensures.ready c.requires.idle.part) c.in_ok-ready.ensures.begins.none_held
    c.has_bytes-is_there.ensures.kept c.has_bytes-is_there.ensures.notes

pub returns-clause-idle : goal.returns-clause-idle
returns-clause-idle g c =
    ended_idle g.R.Device.tells g.R.Device.history g.R.Device.state c.args.pages.now c.ready.new.self c.has_bytes-is_there.new.pages c.done.new.self c.requires.idle c.in_ok-ready.ensures.makes c.has_bytes-is_there.ensures.kept
    c.has_bytes-is_there.ensures.readable c.done.ensures.ends
