-- A change of one number of a meta page leaves all else.
use Rattle.std.proofs.Common.{◌≡◌, ◌≢◌, ℕ, List, length, sym, subst, ◌∙◌, inl, inr, arith}
use Rattle.pm_types.specs.PageSizes.{IsPageSize}
use Rattle.pm_types.specs.Spans.{IsInSpan, span_of}
use Rattle.pm_types.specs.Pages.{SameOutside}
use Rattle.pm_types.specs.Fields.{u64_at}
use Rattle.pm_types.proofs.PageSizeBounds.{page_size_bounds}
use Rattle.pm_types.proofs.Unchanged.{u32_same, u64_same, zeros_same}
use Rattle.pm_meta.specs.declared.slots.MetaSlot.{MetaSlot}
use Rattle.pm_meta.specs.MetaPages.{offset_of, field_of, IsSlot, IsMetaPage}
use Rattle.pm_meta.proofs.OffsetsApart.{offset_bounds, apart}

pub record KeepsAllElse (was now : List ℕ) (slot : MetaSlot) : Type 0 where
  pub well_made : IsMetaPage now
  pub others : (other : MetaSlot) → IsSlot other → other ≢ slot → field_of now other ≡ field_of was other
  pub id : u64_at now 0 ≡ u64_at was 0

pub one_field : (was now : List ℕ) (slot : MetaSlot) → IsMetaPage was → IsSlot slot → SameOutside (IsInSpan (span_of (offset_of slot) 4)) was now → KeepsAllElse was now slot
one_field was now slot page is outside =
    let P = IsInSpan (span_of (offset_of slot) 4) in
    let long = (page_size_bounds (length was) page.size).0 in
    let here = offset_bounds slot is in
    record {
      well_made = record {
        size = subst IsPageSize (sym outside.size) page.size;
        form = record {
          kind = outside.bytes 8 (λ h. omega (arith, h.0, here.0)) ∙ page.form.kind;
          before = zeros_same P was now 9 32 outside (λ k ge lt h. omega (arith, h.0, here.0)) page.form.before;
          after = λ k ge lt. zeros_same P was now 172 (length was) outside (λ j ge' lt' h. omega (arith, h.1, here.1)) page.form.after k ge (omega (arith, outside.size, lt));
        };
      };
      others = λ other is_other differ.
          let there = offset_bounds other is_other in
          let away = apart other slot is_other is differ in
          u32_same P was now (offset_of other) outside (omega (arith, there.1, long)) (λ k ge lt h. elim away [ inl below ↦ omega (arith, h.0) | inr above ↦ omega (arith, h.1) ]);
      id = u64_same P was now 0 outside (omega (arith, long)) (λ k ge lt h. omega (arith, h.0, here.0));
    }
