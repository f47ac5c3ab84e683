use Rattle.std.proofs.Common.{◌∙◌}
use Rattle.pm_stripe.specs.Stripes.{kept}
use Rattle.pm_stripe.proofs.SweptFrames.{sweeps}
use Rattle.pm_stripe.proofs.stripe.Stripe.sweep.Goals as goal

pub returns-clause-sweeps : goal.returns-clause-sweeps
returns-clause-sweeps c =
    sweeps c.args.locks.now (kept c.args.self.now c.args.seat.now) (kept c.sweep_range.new.self c.sweep_range.new.seat) (kept c.sweep_range-2.new.self c.sweep_range-2.new.seat)
    c.first_frame-from.result c.frames-frames.result c.args.self.now.next c.sweep_range.new.self.next c.sweep_range-2.new.self.next (c.frames-frames.ensures ∙ c.requires.holds.many) c.first_frame-from.ensures.start c.first_frame-from.ensures.within c.sweep_range.ensures.tries c.sweep_range-2.ensures.tries
