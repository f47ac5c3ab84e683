use Rattle.pm_stripe.proofs.CoveredPages.{are_covered}
use Rattle.pm_stripe.proofs.IdlePages.{readable_begun, readable_ended, ended_idle}
use Rattle.pm_bench.proofs.bound_pages.operate.Goals as goal

pub returns-in_err-ready-clause-readable : goal.returns-in_err-ready-clause-readable
returns-in_err-ready-clause-readable g c = readable_begun g.R.Device.tells g.R.Device.history g.R.Device.state c.args.pages.now c.ready.new.self c.in_err-ready.ensures.makes c.requires.idle.readable

pub run_over-requires-clause-readable : goal.run_over-requires-clause-readable
run_over-requires-clause-readable g c = readable_begun g.R.Device.tells g.R.Device.history g.R.Device.state c.args.pages.now c.ready.new.self c.in_ok-ready.ensures.makes c.requires.idle.readable

pub done-requires-clause-covered : goal.done-requires-clause-covered
done-requires-clause-covered g c =
    are_covered g.R.Device.tells g.R.Device.history g.R.Device.state c.ready.new.self c.run_over.new.pages (c.in_ok-ready.ensures.ready c.requires.idle.part) c.in_ok-ready.ensures.begins.none_held
    c.run_over.ensures.kept (c.run_over.ensures.notes c.if-run_over.true)

pub returns-then-run_over-clause-readable : goal.returns-then-run_over-clause-readable
returns-then-run_over-clause-readable g c = readable_ended g.R.Device.tells g.R.Device.history g.R.Device.state c.run_over.new.pages c.done.new.self c.done.ensures.ends c.run_over.ensures.readable

pub returns-then-run_over-clause-idle : goal.returns-then-run_over-clause-idle
returns-then-run_over-clause-idle g c = λ _.
    ended_idle g.R.Device.tells g.R.Device.history g.R.Device.state c.args.pages.now c.ready.new.self c.run_over.new.pages c.done.new.self c.requires.idle c.in_ok-ready.ensures.makes c.run_over.ensures.kept
    c.run_over.ensures.readable c.done.ensures.ends
