-- A page of zeros, into which a name, a kind and one number were written.
use Rattle.std.proofs.Common.{◌≡◌, ℕ, ◌+◌, ◌<◌, ◌≤◌, ◌⊎◌, List, length, get_or, sym, subst, ◌∙◌, inl, inr, arith}
use Rattle.pm_types.specs.PageSizes.{IsPageSize}
use Rattle.pm_types.specs.Spans.{IsInSpan, span_of}
use Rattle.pm_types.specs.Pages.{SameOutside}
use Rattle.pm_types.specs.declared.page_id.PageId.{PageId}
use Rattle.pm_types.specs.Fields.{u32_at, u64_at}
use Rattle.pm_types.specs.Heads.{IsBlank}
use Rattle.pm_types.proofs.PageSizeBounds.{page_size_bounds}
use Rattle.pm_types.proofs.Unchanged.{u64_same, zero_u32}
use Rattle.pm_meta.specs.declared.slots.MetaSlot.{MetaSlot}
use Rattle.pm_meta.specs.declared.slots.MetaSlot.TheVariants.{Pages}
use Rattle.pm_meta.proofs.OffsetsApart.{offset_bounds, index_bounds, apart}
use Rattle.pm_meta.specs.MetaPages.{field_of, offset_of, IsSlot, IsStoredMeta, IsStoredReuse}

-- what it then has, with a number of four bytes
record HasWritten (was now : List ℕ) (id : PageId) (kind at : ℕ) : Type 0 where
  pub size : length now ≡ length was
  pub own : u64_at now 0 ≡ id.0
  pub kind_is : get_or now 8 0 ≡ kind
  pub zeros : (k : ℕ) → 9 ≤ k → k < length was → (k < at) ⊎ (at + 4 ≤ k) → get_or now k 0 ≡ 0

written : (was now : List ℕ) (id : PageId) (kind at : ℕ) → IsPageSize (length was) → 9 ≤ at → IsBlank id kind was → SameOutside (IsInSpan (span_of at 4)) was now → HasWritten was now id kind at
written was now id kind at size' ge page outside =
    let long = (page_size_bounds (length was) size').0 in
    record {
      size = outside.size;
      own = u64_same (IsInSpan (span_of at 4)) was now 0 outside (omega arith) (λ k low high h. omega (arith, h.0)) ∙ page.own;
      kind_is = outside.bytes 8 (λ h. omega (arith, h.0)) ∙ page.kind_is;
      zeros = λ k low high away. outside.bytes k (λ h. elim away [ inl below ↦ omega (arith, h.0) | inr above ↦ omega (arith, h.1) ]) ∙ page.zeros k low high;
    }

zero_field : (was now : List ℕ) (id : PageId) (at : ℕ) → IsPageSize (length was) → HasWritten was now id 1 164 → 32 ≤ at → at + 4 ≤ 172 → (at + 4 ≤ 164) ⊎ (168 ≤ at) → u32_at now at ≡ 0
zero_field was now id at size' w low high away =
    let long = (page_size_bounds (length was) size').0 in
    zero_u32 now at (omega (arith, w.size)) (λ k ge lt. w.zeros k (omega arith) (omega arith) (elim away [ inl below ↦ inl (omega arith) | inr above ↦ inr (omega arith) ]))

-- a meta page whose one number is a page count that every partition may have
pub fresh_stored : (was now : List ℕ) (id : PageId) (n max_rows : ℕ) → IsBlank id 1 was → SameOutside (IsInSpan (span_of 164 4)) was now → u32_at now 164 ≡ n → 1 ≤ n → n ≤ 256 → IsStoredMeta id max_rows now
fresh_stored was now id n max_rows page outside pages some few =
    let size' = page.size in
    let w = written was now id 1 164 size' (omega arith) page outside in
    let rows : u32_at now 168 ≡ 0 = zero_field was now id 168 size' w (omega arith) (omega arith) (inr (omega arith)) in
    record {
      own = w.own;
      well_made = record {
        size = subst IsPageSize (sym w.size) size';
        form = record {
          kind = w.kind_is;
          before = λ k ge lt. w.zeros k ge (omega (arith, (page_size_bounds (length was) size').0)) (inl (omega arith));
          after = λ k ge lt. w.zeros k (omega arith) (omega (arith, w.size)) (inr (omega arith));
        };
      };
      counts = record { some = omega (arith, pages); pages = omega (arith, pages); rows = omega (arith, rows) };
      below = λ slot is. let here = index_bounds slot is in let none = zero_field was now id (offset_of slot) size' w here.0 (omega (arith, here.1)) (inl here.1) in omega (arith, none, pages);
    }

pub fresh_zero : (was now : List ℕ) (id : PageId) (slot : MetaSlot) → IsBlank id 1 was → SameOutside (IsInSpan (span_of 164 4)) was now → IsSlot slot → (slot ≡ Pages → ⊥) → field_of now slot ≡ 0
fresh_zero was now id slot page outside is other =
    let size' = page.size in
    let w = written was now id 1 164 size' (omega arith) page outside in
    let here = offset_bounds slot is in
    zero_field was now id (offset_of slot) size' w here.0 here.1 (elim (apart slot Pages is tt other) [ inl below ↦ inl below | inr above ↦ inr above ])

pub fresh_reuse_stored : (was now : List ℕ) (id : PageId) → IsBlank id 5 was → SameOutside (IsInSpan (span_of 16 4)) was now → IsStoredReuse id now
fresh_reuse_stored was now id page outside =
    let size' = page.size in
    let w = written was now id 5 16 size' (omega arith) page outside in
    record {
      own = w.own;
      well_made = record {
        size = subst IsPageSize (sym w.size) size';
        kind = w.kind_is;
        before = λ k ge lt. w.zeros k ge (omega (arith, (page_size_bounds (length was) size').0)) (inl (omega arith));
        after = λ k ge lt. w.zeros k (omega arith) (omega (arith, w.size)) (inr (omega arith));
      };
    }
