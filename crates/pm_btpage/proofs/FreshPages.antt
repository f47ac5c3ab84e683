-- A page of zeros, into which a name and a kind were written, and perhaps a link.
use Rattle.std.proofs.Common.{◌≡◌, ℕ, ◌^◌, ◌<◌, ◌≤◌, ◌⊎◌, List, [], length, get_or, sym, subst, ◌∙◌, inl, inr, arith}
use Rattle.pm_types.specs.PageSizes.{IsPageSize}
use Rattle.pm_types.specs.Spans.{IsInSpan, span_of}
use Rattle.pm_types.specs.Pages.{SameOutside}
use Rattle.pm_types.specs.declared.page_id.PageId.{PageId}
use Rattle.pm_types.specs.Fields.{u64_at}
use Rattle.pm_types.specs.Heads.{IsBlank}
use Rattle.pm_types.proofs.PageSizeBounds.{page_size_bounds}
use Rattle.pm_types.proofs.Unchanged.{u64_same, zero_u16, zero_u64}
use Rattle.pm_btpage.specs.IndexPages.{items_of, count_of, IsIndexPage}
use Rattle.pm_btpage.proofs.ItemsByIndex.{length-items_of, items_by_index}

-- what it then has, whatever its link is
pub record HasWritten (page : List ℕ) (id : PageId) (kind : ℕ) : Type 0 where
  pub size : IsPageSize (length page)
  pub own : u64_at page 0 ≡ id.0
  pub kind_is : get_or page 8 0 ≡ kind
  pub zeros : (k : ℕ) → 9 ≤ k → k < length page → (k < 16) ⊎ (24 ≤ k) → get_or page k 0 ≡ 0

pub without_link : (page : List ℕ) (id : PageId) (kind : ℕ) → IsBlank id kind page → HasWritten page id kind
without_link page id kind is = record { size = is.size; own = is.own; kind_is = is.kind_is; zeros = λ k low high away. is.zeros k low high }

pub no_link : (page : List ℕ) (id : PageId) (kind : ℕ) → IsBlank id kind page → u64_at page 16 ≡ 0
no_link page id kind is =
    let long = (page_size_bounds (length page) is.size).0 in
    zero_u64 page 16 (omega (arith, long)) (λ k low high. is.zeros k (omega arith) (omega (arith, long)))

pub with_link : (was now : List ℕ) (id : PageId) (kind : ℕ) → IsBlank id kind was → SameOutside (IsInSpan (span_of 16 8)) was now → HasWritten now id kind
with_link was now id kind is outside =
    let long = (page_size_bounds (length was) is.size).0 in
    record {
      size = subst IsPageSize (sym outside.size) is.size;
      own = u64_same (IsInSpan (span_of 16 8)) was now 0 outside (omega (arith, long)) (λ k low high h. omega (arith, h.0)) ∙ is.own;
      kind_is = outside.bytes 8 (λ h. omega (arith, h.0)) ∙ is.kind_is;
      zeros = λ k low high away. outside.bytes k (λ h. elim away [ inl below ↦ omega (arith, h.0) | inr above ↦ omega (arith, h.1) ]) ∙ is.zeros k low (omega (arith, outside.size, high));
    }

pub record IsEmptyPage (page : List ℕ) : Type 0 where
  pub well_made : IsIndexPage page
  pub none : items_of page ≡ []

pub fresh_page : (now : List ℕ) (id : PageId) (kind : ℕ) → HasWritten now id kind → (kind ≡ 2) ⊎ (kind ≡ 3) → (kind ≡ 2 → u64_at now 16 < 2 ^ 32) → IsEmptyPage now
fresh_page now id kind w kinds short =
    let long = (page_size_bounds (length now) w.size).0 in
    let count : count_of now ≡ 0 = zero_u16 now 10 (omega (arith, long)) (λ k ge lt. w.zeros k (omega arith) (omega (arith, long)) (inl (omega arith))) in
    record {
      well_made = record {
        size = w.size;
        head = record {
          kind = elim kinds [ inl leaf ↦ inl (w.kind_is ∙ leaf) | inr inner ↦ inr (w.kind_is ∙ inner) ];
          zero_9 = w.zeros 9 (omega arith) (omega (arith, long)) (inl (omega arith));
          zero_12 = λ k ge lt. w.zeros k (omega arith) (omega (arith, long)) (inl lt);
          next = λ leaf. short (sym w.kind_is ∙ leaf);
          after_link = λ k ge lt. w.zeros k (omega arith) (omega (arith, long)) (inr ge);
        };
        items = record {
          within = omega (arith, count, long);
          each = λ i lt. absurd (omega (arith, count));
          rising = λ i j less lt. absurd (omega (arith, count, length-items_of now));
          after = λ k ge lt. w.zeros k (omega arith) lt (inr (omega arith));
        };
      };
      none = items_by_index now [] (record { key = []; word = 0 }) (sym count) (λ i lt. absurd (omega (arith, count)));
    }
