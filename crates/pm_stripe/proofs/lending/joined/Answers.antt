use Rattle.std.proofs.Common.{subst, ap, ◌∙◌}
use Rattle.pm_types.specs.Spans.{Coverage, Covers, AlsoCovers}
use Rattle.pm_stripe.specs.ChangedPages.{is_changed}
use Rattle.pm_stripe.proofs.JoinedPatches.{joined_changed}
use Rattle.pm_stripe.proofs.lending.joined.Goals as goal

pub returns-in-Some-clause-changed : goal.returns-in-Some-clause-changed
returns-in-Some-clause-changed c = λ e.
    ap is_changed c.in-Some.is ∙ joined_changed c.in-Some.old c.join.new.self (Covers c.args.patch.now) c.len-len.ensures.patch
    (subst (λ (o : Coverage). AlsoCovers o c.join.new.self (Covers c.args.patch.now)) c.copy-both.ensures c.join.ensures) e
