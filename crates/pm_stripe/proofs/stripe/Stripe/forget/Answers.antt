use Rattle.pm_stripe.specs.Stripes.{kept}
use Rattle.pm_stripe.proofs.ForgottenPages.{forgets}
use Rattle.pm_stripe.proofs.stripe.Stripe.forget.Goals as goal

pub returns-clause-forgets : goal.returns-clause-forgets
returns-clause-forgets c = forgets (kept c.args.self.now c.args._seat.now) c.clear.new.self c.requires.spare c.clear.ensures.none c.clear.ensures.empty c.clear.ensures.count
