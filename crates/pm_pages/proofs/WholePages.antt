-- To cover every byte of a page is to cover it as a whole.
use Rattle.std.proofs.Common.{◌≡◌, ℕ, ◌<◌, ◌⊎◌, [], ◌∷◌, inl, inr, arith}
use Rattle.std.specs.Prelude.{IsTrue}
use Rattle.pm_types.specs.PageSizes.{IsPageSize}
use Rattle.pm_types.specs.Spans.{Coverage, IsInSpan, span_of, IsInSpans, Covers, no_coverage, NeedsWhole, AlsoCovers, IsPatch}
use Rattle.pm_types.proofs.PageSizeBounds.{page_size_bounds}

-- a set of exactly the page's bytes
whole_of : (size : ℕ) → IsPageSize size → (set : ℕ → Type 0) → ((k : ℕ) → set k → k < size) → ((k : ℕ) → k < size → set k) → NeedsWhole size set
whole_of size is set within all = record {
  spans = span_of 0 size ∷ [];
  lists = record {
    rise = (omega arith, omega (arith, (page_size_bounds size is).0), tt);
    all = λ k h. inl (omega arith, omega (arith, within k h));
    only = λ k h. all k (of_any k h);
  };
  many = inr (omega (arith, (page_size_bounds size is).0));
}
  where
    of_any : (k : ℕ) → IsInSpans (span_of 0 size ∷ []) k → k < size
    of_any k h = elim h [ inl h ↦ omega (arith, h.1) | inr n ↦ absurd n ]

pub needs_whole : (size : ℕ) → IsPageSize size → NeedsWhole size (λ k. Covers (no_coverage size) k ⊎ IsInSpan (span_of 0 size) k)
needs_whole size is = whole_of size is (λ k. Covers (no_coverage size) k ⊎ IsInSpan (span_of 0 size) k) of_set (λ k lt. inr (omega arith, omega (arith, lt)))
  where
    of_set : (k : ℕ) → Covers (no_coverage size) k ⊎ IsInSpan (span_of 0 size) k → k < size
    of_set k h = elim h [ inl (inl w) ↦ (let f = w.0 in absurd (cc f)) | inl (inr n) ↦ absurd n | inr h ↦ omega (arith, h.1) ]

-- a patch covers bytes of its page alone
covers_below : (patch : Coverage) → IsPatch patch → (k : ℕ) → Covers patch k → k < patch.page_size
covers_below patch is k covers = elim covers [ inl whole ↦ whole.1 | inr there ↦ is.within k there ]

-- a patch that is the whole page stays so
pub joins_whole : (old patch joined : Coverage) → IsPatch old → IsPatch patch → old.page_size ≡ patch.page_size → AlsoCovers old joined (Covers patch) → IsTrue old.whole → IsTrue joined.whole
joins_whole old patch joined is_old is same joins whole =
    joins.whole_if_needed.1 (whole_of old.page_size is_old.size (λ k. Covers old k ⊎ Covers patch k)
    (λ k h. elim h [ inl mine ↦ covers_below old is_old k mine | inr more ↦ omega (arith, covers_below patch is k more, same) ])
    (λ k lt. inl (inl (whole, lt))))
