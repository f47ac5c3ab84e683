use Rattle.std.proofs.Common.{◌≡◌, ℕ, ◌+◌, ◌-◌, ◌<◌, Bool, false, List, [], ◌∷◌, ◌++◌, length, get_or, sym, ap, ◌∙◌, inl, inr, arith}
use Rattle.std.proofs.lemmas.Bool.{cases_eq}
use Rattle.std.proofs.lemmas.List.{length-append, get_or_append_left, get_or-append_right}
use Rattle.pm_pages.specs.PageLists.{pages_in}
use Rattle.pm_pages.specs.Rows.{page_at}
use Rattle.pm_pages.specs.Chains.{is_in_bucket}
use Rattle.pm_pages.proofs.well_formed.chains.pages_in_bucket.Goals as goal

-- one flag more
one_more : (f : ℕ → Bool) (flags flags' : List Bool) (i k : ℕ) (flag : Bool) → length flags ≡ i → ((k : ℕ) → k < i → get_or flags k false ≡ f k) → flag ≡ f i → flags' ≡ flags ++ flag ∷ [] → k < i + 1 → get_or flags' k false ≡ f k
one_more f flags flags' i k flag len each is more lt =
    ap (λ (t : List Bool). get_or t k false) more ∙ elim (cases_eq k i) [
      | inl same ↦ get_or-append_right flags (flag ∷ []) i k false len (omega (arith, same)) ∙ zero_at (k - i) (omega (arith, same)) ∙ is ∙ ap f (sym same)
      | inr away ↦ get_or_append_left flags (flag ∷ []) false k (omega (arith, away, len)) ∙ each k (omega (arith, away))
    ]
  where
    zero_at : (n : ℕ) → n ≡ 0 → get_or (flag ∷ []) n false ≡ flag
    zero_at n e = ap (λ m. get_or (flag ∷ []) m false) e

pub pages-preserved : goal.pages-preserved
pages-preserved c =
    let flag = c.is_in_bucket.ensures ∙ ap (is_in_bucket c.args.bucket) c.page.ensures.bytes in
    record {
      len = ap length c.in_ok-push.ensures.items ∙ length-append c.pages.flags.items (c.is_in_bucket.result ∷ []) ∙ ap (λ n. n + 1) c.pages.invariant.len;
      each = λ k lt. one_more (λ i. is_in_bucket c.args.bucket (page_at (pages_in c.args.pages.now) i)) c.pages.flags.items c.push.new.self.items c.pages.i k c.is_in_bucket.result c.pages.invariant.len c.pages.invariant.each flag c.in_ok-push.ensures.items lt;
    }
