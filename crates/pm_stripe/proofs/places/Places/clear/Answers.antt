use Rattle.std.proofs.Common.{rules, ◌≡◌, length}
use Rattle.pm_stripe.proofs.ForgottenPages.{all_empty, no_page}
use Rattle.pm_stripe.proofs.places.Places.clear.Goals as goal

pub returns-clause-none : goal.returns-clause-none
returns-clause-none c =
    let long : length c.frames.self.pages.items ≡ c.frames.frame = search rules in
    no_page c.frames.self.table.entries c.frames.self.pages.items c.frames.self.agree (all_empty c.frames.self.pages.items c.frames.frame long c.frames.invariant.empty)

pub returns-clause-empty : goal.returns-clause-empty
returns-clause-empty c =
    let long : length c.frames.self.pages.items ≡ c.frames.frame = search rules in
    all_empty c.frames.self.pages.items c.frames.frame long c.frames.invariant.empty
