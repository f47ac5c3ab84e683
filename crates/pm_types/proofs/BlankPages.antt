-- A page of zeros, into which a name and a kind were written.
use Rattle.std.proofs.Common.{◌≡◌, ℕ, ◌+◌, List, [], ◌∷◌, length, get_or, replicate, sym, ap, subst, ◌∙◌, arith}
use Rattle.pm_types.specs.PageSizes.{IsPageSize}
use Rattle.pm_types.specs.Spans.{IsInSpan, span_of}
use Rattle.pm_types.specs.Pages.{SameOutside}
use Rattle.pm_types.specs.declared.page_id.PageId.{PageId}
use Rattle.pm_types.specs.Fields.{bytes_at, u64_at, AreZero}
use Rattle.pm_types.specs.Heads.{IsBlank}
use Rattle.pm_types.proofs.PageSizeBounds.{page_size_bounds}
use Rattle.pm_types.proofs.Unchanged.{get_or-bytes_at, u64_same, are_zeros}

-- the page was written so, in this order
pub record Steps (was p0 p1 p2 : List ℕ) (id : PageId) (kind : ℕ) : Type 0 where
  pub zeros : bytes_at p0 0 (length was) ≡ replicate (length was) 0
  pub size : length p0 ≡ length was
  pub name : u64_at p1 0 ≡ id.0
  pub after_name : SameOutside (IsInSpan (span_of 0 8)) p0 p1
  pub kind_is : bytes_at p2 8 1 ≡ kind ∷ []
  pub after_kind : SameOutside (IsInSpan (span_of 8 1)) p1 p2

pub blank : (was p0 p1 p2 : List ℕ) (id : PageId) (kind : ℕ) → IsPageSize (length was) → Steps was p0 p1 p2 id kind → IsBlank id kind p2
blank was p0 p1 p2 id kind size' s =
    let long = (page_size_bounds (length was) size').0 in
    let zero : AreZero p0 0 (0 + length was) = are_zeros p0 0 (length was) s.zeros in
    let same_size : length p2 ≡ length was = s.after_kind.size ∙ s.after_name.size ∙ s.size in
    record {
      size = subst IsPageSize (sym same_size) size';
      own = u64_same (IsInSpan (span_of 8 1)) p1 p2 0 s.after_kind (omega (arith, s.after_name.size, s.size)) (λ k low high h. omega (arith, h.0)) ∙ s.name;
      kind_is = sym (get_or-bytes_at p2 8 1 0 (omega arith)) ∙ ap (λ (t : List ℕ). get_or t 0 0) s.kind_is;
      zeros = λ k low high. s.after_kind.bytes k (λ h. omega (arith, h.1)) ∙ s.after_name.bytes k (λ h. omega (arith, h.1)) ∙ zero k (omega arith) (omega (arith, same_size));
    }
