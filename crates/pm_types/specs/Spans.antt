-- Ranges of a page's bytes, and what a patch covers.
use Rattle.std.specs.Prelude.{◌≡◌, ℕ, ◌+◌, ◌-◌, ◌*◌, ◌<◌, ◌≤◌, ◌⊎◌, ◌↔◌, Bool, false, List, [], ◌∷◌}
use Rattle.std.specs.Prelude.{length, take, IsTrue}
use Rattle.std.specs.List.{sum_by}
use Rattle.pm_types.specs.PageSizes.{IsPageSize}
use Rattle.pm_types.specs.declared.limits.TheConstants.{PATCH_SPANS_MAX}
use Rattle.pm_types.specs.declared.spans.Span.{Span}

-- byte k is in the range
abbrev pub IsInSpan : Span → ℕ → Type 0
IsInSpan span k = (span.start ≤ k) × (k < span.end)

-- the range of so many bytes from an offset on
abbrev pub span_of : ℕ → ℕ → Span
span_of at len = record { start = at; end = at + len }

-- byte k is in one of the ranges
abbrev pub IsInSpans : List Span → ℕ → Type 0
IsInSpans [] k = ⊥
IsInSpans (span ∷ spans) k = IsInSpan span k ⊎ IsInSpans spans k

-- the ranges rise from `low` on, each has a byte, and there is a gap between each two
abbrev pub RiseFrom : ℕ → List Span → Type 0
RiseFrom low [] = Unit {0}
RiseFrom low (span ∷ spans) = (low ≤ span.start) × (span.start < span.end) × RiseFrom (span.end + 1) spans

-- how many bytes the ranges have
abbrev pub byte_count : List Span → ℕ
byte_count spans = sum_by (λ span. span.end - span.start) spans

-- the ranges rise with gaps, and hold exactly the bytes of this set: no fewer ranges do
pub record Lists (spans : List Span) (set : ℕ → Type 0) : Type 0 where
  pub rise : RiseFrom 0 spans
  pub all : (k : ℕ) → set k → IsInSpans spans k
  pub only : (k : ℕ) → IsInSpans spans k → set k

-- these are more ranges than a patch has room for, or more than half the page
abbrev pub AreMany : ℕ → List Span → Type 0
AreMany page_size spans = (PATCH_SPANS_MAX < length spans) ⊎ (page_size < 2 * byte_count spans)

-- what a patch says: the size of its page, and that it covers the page as a whole, or these ranges
pub record Coverage : Type 0 where
  pub page_size : ℕ
  pub whole : Bool
  pub spans : List Span

-- what a patch says whose first `count` ranges count
abbrev pub coverage : ℕ → Bool → ℕ → List Span → Coverage
coverage page_size whole count spans = record { page_size = page_size; whole = whole; spans = take count spans }

-- nothing of a page of this size is covered
abbrev pub no_coverage : ℕ → Coverage
no_coverage page_size = record { page_size = page_size; whole = false; spans = [] }

-- byte k of the page is covered
abbrev pub Covers : Coverage → ℕ → Type 0
Covers patch k = (IsTrue patch.whole × (k < patch.page_size)) ⊎ IsInSpans patch.spans k

-- to cover these bytes of a page takes more than eight ranges, or more than half the page
pub record NeedsWhole (page_size : ℕ) (set : ℕ → Type 0) : Type 0 where
  pub spans : List Span
  pub lists : Lists spans set
  pub many : AreMany page_size spans

-- these bytes are covered besides what was, and nothing else, or the whole page exactly where it is needed
pub record AlsoCovers (old new : Coverage) (set : ℕ → Type 0) : Type 0 where
  pub size : new.page_size ≡ old.page_size
  pub keeps : (k : ℕ) → Covers old k → Covers new k
  pub adds : (k : ℕ) → set k → Covers new k
  pub nothing_else : new.whole ≡ false → (k : ℕ) → Covers new k → Covers old k ⊎ set k
  pub whole_if_needed : IsTrue new.whole ↔ NeedsWhole old.page_size (λ k. Covers old k ⊎ set k)

-- what every patch keeps: few ranges, rising with gaps, of at most half the page; none if it is whole
pub record IsPatch (patch : Coverage) : Type 0 where
  pub size : IsPageSize patch.page_size
  pub few : length patch.spans ≤ PATCH_SPANS_MAX
  pub rise : RiseFrom 0 patch.spans
  pub within : (k : ℕ) → IsInSpans patch.spans k → k < patch.page_size
  pub small : 2 * byte_count patch.spans ≤ patch.page_size
  pub none_if_whole : IsTrue patch.whole → patch.spans ≡ []
