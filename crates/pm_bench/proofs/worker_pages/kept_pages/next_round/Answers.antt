use Rattle.std.proofs.Common.{◌≡◌, ℕ, ◌%◌, ◌<◌, sym, subst, ◌∙◌}
use Rattle.pm_types.specs.declared.shape.Shape.{Shape}
use Rattle.pm_bench.proofs.worker_pages.kept_pages.next_round.Goals as goal

pub returns-clause-own : goal.returns-clause-own
returns-clause-own g c =
    let b = c.args.pages in
    let d = c.at.new.self in
    let ended = c.end-stripe.result in
    let same : d.stripe ≡ ended.0 = c.at.ensures.same.stripe ∙ c.new-pages.ensures.stripe in
    let locks : d.locks.now ≡ b.locks.now = (λ i. (c.at.ensures.same.locks i).now) ∙ c.new-pages.ensures.locks ∙ sym c.requires.locks in
    let shape : d.stripe.shape ≡ b.stripe.shape = (λ i. (same i).shape) ∙ c.end-stripe.ensures.ends.same.shape in
    let number : d.stripe.number ≡ b.stripe.number = (λ i. (same i).number) ∙ c.end-stripe.ensures.ends.same.number in
    record {
      there = subst (λ (s : Shape). 0 < s.partitions) (sym shape) c.requires.own.there;
      own = subst (λ (p : ℕ × ℕ). 0 % p.0 ≡ p.1) (λ i. ((sym locks i).workers, sym number i)) c.requires.own.own;
    }
