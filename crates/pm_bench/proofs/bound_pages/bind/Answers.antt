use Rattle.std.proofs.Common.{◌≡◌, ℕ, ◌%◌, ◌<◌, sym, ap, subst, ◌∙◌}
use Rattle.std.specs.FinMap as fin
use Rattle.std.specs.Prelude.{slice_get}
use Rattle.std.specs.Ordering.{nat_cmp}
use Rattle.pm_types.specs.declared.shape.Shape.{Shape}
use Rattle.pm_stripe.proofs.IdlePages.{new_idle}
use Rattle.pm_bench.proofs.bound_pages.bind.Goals as goal

pub returns-clause-idle : goal.returns-clause-idle
returns-clause-idle g c =
    let same : c.at.new.self.stripe ≡ c.args.stripe = c.at.ensures.same.stripe ∙ c.new-pages.ensures.stripe in
    let locks : c.at.new.self.locks.now ≡ c.args.locks.now = (λ i. (c.at.ensures.same.locks i).now) ∙ c.new-pages.ensures.locks in
    new_idle g.R.Device.tells g.R.Device.history g.R.Device.state c.at.new.self (c.at.ensures.bound c.new-pages.ensures.bound)
    ((λ i. (same i).places.table.entries) ∙ c.requires.new) ((λ i. (same i).held.items) ∙ c.requires.rest.none_held)
    (record {
      there = subst (λ (p : ℕ × Shape). p.0 < p.1.partitions) (λ i. (sym c.at.ensures.part i, (sym same i).shape)) c.requires.there;
      own = subst (λ (p : ℕ × ℕ × ℕ). p.0 % p.1 ≡ p.2) (λ i. (sym c.at.ensures.part i, (sym locks i).workers, (sym same i).number)) c.requires.own;
    })

-- a stripe without a page has none that is Clean, and none in hand
pub new-pages-requires-clause-clean : goal.new-pages-requires-clause-clean
new-pages-requires-clause-clean g c tells = record {
  kept = λ id f tag e place put clean.
      let none = ap (λ entries. fin.get entries id.0) c.requires.new ∙ fin.get-empty nat_cmp id.0 in
      absurd (let bad = sym none ∙ place in cc bad);
  read = λ i h there is unchanged.
      let none = ap (λ held. slice_get held i) c.requires.rest.none_held in
      absurd (let bad = sym none ∙ there in cc bad);
}
