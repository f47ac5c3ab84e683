use Rattle.std.proofs.Common.{◌≡◌, ℕ, ◌%◌, ◌<◌, sym, subst, ◌∙◌}
use Rattle.pm_types.specs.declared.shape.Shape.{Shape}
use Rattle.pm_stripe.specs.Ends.{EndsRound}
use Rattle.pm_stripe.specs.declared.stripe.Stripe.{Stripe}
use Rattle.pm_locks.specs.Sight.{Sight}
use Rattle.pm_stripe.proofs.IdlePages.{rebound_idle}
use Rattle.pm_bench.proofs.worker_pages.failing.begin_again.Goals as goal

pub returns : goal.returns
returns g c =
    let b = c.args.pages in
    let d = c.at.new.self in
    let ended = c.end-stripe.result in
    let same : d.stripe ≡ ended.0 = c.at.ensures.same.stripe ∙ c.new-pages.ensures.stripe in
    let seat : d.seat ≡ ended.1 = c.at.ensures.same.seat ∙ c.new-pages.ensures.seat in
    let locks : d.locks.now ≡ b.locks.now = (λ i. (c.at.ensures.same.locks i).now) ∙ c.new-pages.ensures.locks ∙ sym c.requires.locks in
    let part : d.part ≡ b.part = c.at.ensures.part ∙ sym c.requires.first in
    let x = c.end-stripe.ensures.ends in
    let shape : d.stripe.shape ≡ b.stripe.shape = (λ i. (same i).shape) ∙ x.same.shape in
    let number : d.stripe.number ≡ b.stripe.number = (λ i. (same i).number) ∙ x.same.number in
    rebound_idle g.R.Device.tells g.R.Device.history g.R.Device.state b d c.requires.readable
    (subst (λ (p : Stripe × Sight). EndsRound g.R.Device.tells g.R.Device.history b p.0 p.1) (λ i. (sym same i, sym seat i)) x)
    part (c.at.ensures.bound c.new-pages.ensures.bound)
    ((λ i. (same i).held.items) ∙ c.end-stripe.ensures.rest.none_held)
    (record {
      there = subst (λ (p : ℕ × Shape). p.0 < p.1.partitions) (λ i. (sym part i, sym shape i)) c.requires.own.there;
      own = subst (λ (p : ℕ × ℕ × ℕ). p.0 % p.1 ≡ p.2) (λ i. (sym part i, (sym locks i).workers, sym number i)) c.requires.own.own;
    })
