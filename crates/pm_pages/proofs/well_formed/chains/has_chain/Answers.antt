use Rattle.std.proofs.Common.{◌≡◌, ℕ, Bool, true, false, List, subst, sym, ◌∙◌, refl}
use Rattle.std.specs.Prelude.{IsTrue, ◌↔◌}
use Rattle.pm_pages.specs.PageLists.{pages_in}
use Rattle.pm_pages.specs.Rows.{Partition, page_at, page_count}
use Rattle.pm_pages.specs.Chains.{before_of, bucket_chain, is_in_bucket, IsExactly, NamesBefore, HasChain}
use Rattle.pm_pages.proofs.Walks.{by_flags}
use Rattle.pm_pages.proofs.well_formed.chains.has_chain.Goals as goal
use Rattle.pm_pages.proofs.well_formed.chains.has_chain.Goals.{then-branch, else-branch}

-- both tests together
both_tests : (pages : Partition) (bucket : ℕ) (exact named all : Bool) → (IsTrue exact ↔ IsExactly (page_count pages) (λ i. is_in_bucket bucket (page_at pages i)) (bucket_chain pages bucket)) → (IsTrue exact → all ≡ named) → (exact ≡ false → all ≡ exact) → (IsTrue exact → IsTrue named ↔ NamesBefore (λ i. before_of (page_at pages i)) 0 (bucket_chain pages bucket)) → IsTrue all ↔ HasChain pages bucket
both_tests pages bucket true named all exact then' else' names =
    (λ h. record { exact = exact.0 refl; before = (names refl).0 (sym (then' refl) ∙ h) }, λ has. then' refl ∙ (names refl).1 has.before)
both_tests pages bucket false named all exact then' else' names =
    (λ h. (let no : IsTrue false = sym (else' refl) ∙ h in absurd (cc no)), λ has. (let no = exact.1 has.exact in absurd (cc no)))

pub returns : goal.returns
returns c =
    let pages = pages_in c.args.pages.now in
    let is = c.deref.ensures.value ∙ c.in_ok-chain.ensures in
    let exact : IsTrue c.in_ok-is_exactly.field-0 ↔ IsExactly (page_count pages) (λ i. is_in_bucket c.args.bucket (page_at pages i)) (bucket_chain pages c.args.bucket) =
    by_flags (page_count pages) (λ i. is_in_bucket c.args.bucket (page_at pages i)) (bucket_chain pages c.args.bucket) c.deref.result.now c.in_ok-wanted.wanted.items c.deref-2.result.now c.in_ok-is_exactly.field-0
    c.in_ok-is_exactly.ensures is c.deref-2.ensures.value c.in_ok-wanted.ensures.len c.in_ok-wanted.ensures.each in
    elim c.if-branch.branch [
      | then-branch w ↦
          let chain : w.deref-then-branch.result.now ≡ bucket_chain pages c.args.bucket = w.deref-then-branch.ensures.value ∙ c.in_ok-chain.ensures in
          let names = subst (λ (chain : List ℕ). IsTrue w.name_before.result ↔ NamesBefore (λ i. before_of (page_at pages i)) 0 chain) chain w.name_before.ensures in
          both_tests pages c.args.bucket c.in_ok-is_exactly.field-0 w.name_before.result c.if-branch.result exact (λ h. w.result-is) (λ h. (let no : true ≡ false = sym w.if-branch.true ∙ h in absurd (cc no))) (λ h. names)
      | else-branch w ↦
          both_tests pages c.args.bucket c.in_ok-is_exactly.field-0 false c.if-branch.result exact (λ h. (let no : false ≡ true = sym w.if-branch.false ∙ h in absurd (cc no))) (λ h. w.result-is) (λ h. (let no : false ≡ true = sym w.if-branch.false ∙ h in absurd (cc no)))
    ]
