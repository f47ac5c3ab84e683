use Rattle.pm_stripe.proofs.CoveredPages.{are_covered}
use Rattle.pm_stripe.proofs.IdlePages.{readable_begun, ended_idle}
use Rattle.pm_bench.proofs.worker_pages.tree_steps.step_bound.Goals as goal

pub step_over-requires-clause-readable : goal.step_over-requires-clause-readable
step_over-requires-clause-readable g c = readable_begun g.R.Device.tells g.R.Device.history g.R.Device.state c.args.pages.now c.ready.new.self c.in_ok-ready.ensures.makes c.requires.idle.readable

pub done-requires-clause-covered : goal.done-requires-clause-covered
done-requires-clause-covered g c =
    are_covered g.R.Device.tells g.R.Device.history g.R.Device.state c.ready.new.self c.step_over.new.pages (c.in_ok-ready.ensures.ready c.requires.idle.part) c.in_ok-ready.ensures.begins.none_held
    c.step_over.ensures.kept c.in-Some.ensures.notes

pub returns-in-Some-clause-idle : goal.returns-in-Some-clause-idle
returns-in-Some-clause-idle g c =
    ended_idle g.R.Device.tells g.R.Device.history g.R.Device.state c.args.pages.now c.ready.new.self c.step_over.new.pages c.done.new.self c.requires.idle c.in_ok-ready.ensures.makes c.step_over.ensures.kept
    c.step_over.ensures.readable c.done.ensures.ends
