-- A partition with its first page alone is well formed, and has no rows.
use Rattle.std.proofs.Common.{◌≡◌, ℕ, zero, suc, ◌+◌, ◌-◌, ◌<◌, ◌≤◌, List, [], ◌∷◌, ◌++◌, length, get_or, replicate, Some, None, Bool, false, refl, sym, ap, subst, ◌∙◌, inl, arith}
use Rattle.std.specs.Prelude.{◌==◌, nat_le, if◌then◌else◌, All, AllPairs, IsSomeAnd}
use Rattle.std.proofs.lemmas.List.{get_or-drop, length-replicate, length-append}
use Rattle.pm_types.specs.declared.shape.Shape.{Shape}
use Rattle.pm_types.specs.Shapes.{IsShape}
use Rattle.pm_types.specs.Fields.{u32_at, u64_at}
use Rattle.pm_types.specs.Heads.{IsBlank}
use Rattle.pm_types.specs.Ids.{page_id}
use Rattle.pm_types.specs.Pages.{SameOutside}
use Rattle.pm_types.specs.PageSizes.{IsPageSize}
use Rattle.pm_types.specs.Spans.{IsInSpan, span_of}
use Rattle.pm_types.proofs.Changes.{outside_splice}
use Rattle.pm_types.proofs.PageSizeBounds.{page_size_bounds}
use Rattle.pm_meta.specs.declared.layout.TheConstants.{BUCKETS, REUSE_KIND}
use Rattle.pm_meta.specs.declared.slots.MetaSlot.{MetaSlot}
use Rattle.pm_meta.specs.declared.slots.MetaSlot.TheVariants.{Root, Bucket, Reuse, Pages, Rows}
use Rattle.pm_meta.specs.MetaPages.{field_of, IsSlot, IsStoredMeta}
use Rattle.pm_meta.proofs.FreshPages.{fresh_stored, fresh_zero}
use Rattle.pm_model.specs.Partitions.{part_of}
use Rattle.pm_pages.specs.declared.row.Row.{Row}
use Rattle.pm_pages.specs.Chains.{walk, next_of, reuse_next_of, before_of, is_in_bucket, bucket_chain, reuse_chain, NamesBefore, IsExactly}
use Rattle.pm_pages.specs.Passes.{Passes}
use Rattle.pm_pages.specs.Rows.{Partition, page_at, page_count, rows_of, kind_of}
use Rattle.pm_pages.specs.WellFormed.{IsWellFormed, AreDifferent, placed_pages}
use Rattle.pm_core.specs.FirstRun.{first_page}

zeros_in : (n i : ℕ) → get_or {A = ℕ} (replicate {A = ℕ} n 0) i 0 ≡ 0
zeros_in zero i = refl
zeros_in (suc n) zero = refl
zeros_in (suc n) (suc i) = zeros_in n i

zeros_at : (a b i : ℕ) → get_or {A = ℕ} (replicate {A = ℕ} a 0 ++ replicate {A = ℕ} b 0) i 0 ≡ 0
zeros_at zero b i = zeros_in b i
zeros_at (suc a) b zero = refl
zeros_at (suc a) b (suc i) = zeros_at a b i

module _ (shape : Shape) (shaped : IsShape shape) where
  abbrev pub page : List ℕ
  page = first_page shape.page_size

  abbrev rest : List ℕ
  rest = replicate (shape.page_size - 168) 0

  -- the page without its page count
  abbrev blank : List ℕ
  blank = 0 ∷ 0 ∷ 0 ∷ 0 ∷ 0 ∷ 0 ∷ 1 ∷ 0 ∷ 1 ∷ (replicate 159 0 ++ rest)

  long : 1024 ≤ shape.page_size
  long = let bounds = page_size_bounds shape.page_size shaped.page_size in bounds.0

  abbrev front : List ℕ
  front = 0 ∷ 0 ∷ 0 ∷ 0 ∷ 0 ∷ 0 ∷ 1 ∷ 0 ∷ 1 ∷ replicate 159 0

  length_blank : length blank ≡ shape.page_size
  length_blank =
      let parts : length blank ≡ length front + length rest = length-append front rest in
      let some : length front ≡ 168 = refl in
      omega (arith, parts, some, length-replicate {A = ℕ} (shape.page_size - 168) 0, long)

  is_blank : IsBlank (page_id 0 0) 1 blank
  unfolding u64_at
  is_blank = record {
    size = subst IsPageSize (sym length_blank) shaped.page_size;
    own = refl;
    kind_is = refl;
    zeros = λ k ge lt.
        let i : 9 + (k - 9) ≡ k = omega (arith, ge) in
        ap (λ j. get_or blank j 0) (sym i) ∙ sym (get_or-drop 9 blank (k - 9) 0) ∙ zeros_at 159 (shape.page_size - 168) (k - 9);
  }

  outside : SameOutside (IsInSpan (span_of 164 4)) blank page
  outside = outside_splice blank (1 ∷ 0 ∷ 0 ∷ 0 ∷ []) 164 4 refl (omega (arith, length_blank, long))

  one : u32_at page 164 ≡ 1
  unfolding u32_at
  one = refl

  stored : IsStoredMeta (page_id 0 0) shape.max_rows page
  stored = fresh_stored blank page (page_id 0 0) 1 shape.max_rows is_blank outside one (omega arith) (omega arith)

  no_number : (slot : MetaSlot) → IsSlot slot → (slot ≡ Pages → ⊥) → field_of page slot ≡ 0
  no_number slot is other = fresh_zero blank page (page_id 0 0) slot is_blank outside is other

  pub length_page : length page ≡ shape.page_size
  length_page = outside.size ∙ length_blank

  abbrev pub alone : Partition
  alone index = if index == 0 then Some page else None

  pub no_rows_there : rows_of 0 alone ≡ []
  unfolding u32_at
  no_rows_there = refl

  no_place : placed_pages alone ≡ []
  unfolding u32_at placed_pages
  no_place = refl

  no_bucket : (bucket : ℕ) → bucket < BUCKETS → bucket_chain alone bucket ≡ []
  no_bucket bucket lt =
      ap (λ head. walk (λ i. next_of (page_at alone i)) (page_count alone) head) (no_number (Bucket bucket) lt (λ is. absurd cc))
      ∙ ap (λ turns. walk (λ i. next_of (page_at alone i)) turns 0) one

  no_reuse : reuse_chain alone ≡ []
  no_reuse =
      ap (λ head. walk (λ i. reuse_next_of (page_at alone i)) (page_count alone) head) (no_number Reuse tt (λ is. absurd cc))
      ∙ ap (λ turns. walk (λ i. reuse_next_of (page_at alone i)) turns 0) one

  first_alone : (i : ℕ) → i < page_count alone → i ≡ 0
  first_alone i lt = omega (arith, lt, one)

  no_data : (bucket : ℕ) → is_in_bucket bucket (page_at alone 0) ≡ false
  unfolding u32_at
  no_data bucket = refl

  none_exactly : (test : ℕ → Bool) → test 0 ≡ false → IsExactly (page_count alone) test []
  none_exactly test not_first = record {
    below = λ k d lt. absurd (omega (arith, lt));
    once = λ i lt. ap (λ (b : Bool). let n : ℕ = if b then 1 else 0 in n) (sym (ap test (first_alone i lt) ∙ not_first));
  }

  pub is_well_formed : IsWellFormed shape 0 alone
  is_well_formed = record {
    all_pass = record {
      meta = record { size = length_page; stored = stored };
      each = λ i lt. subst (λ j. IsSomeAnd (alone j) (Passes shape.page_size shape.max_rows (page_id 0 j))) (sym (first_alone i lt))
          (record { size = length_page; kind = inl stored });
    };
    keys_once = record {
      once = subst (λ (rows : List Row). AllPairs AreDifferent rows) (sym no_rows_there) (λ i j d p q. absurd (omega (arith, q)));
      of_part = subst (λ (rows : List Row). All (λ row. part_of row.key shape.partitions ≡ 0) rows) (sym no_rows_there) (λ k d lt. absurd (omega (arith, lt)));
      counted = no_number Rows tt (λ is. absurd cc) ∙ ap (λ (rows : List Row). length rows) (sym no_rows_there);
    };
    trees = λ cache lt. record {
      none = λ all. no_number (Root cache) lt (λ is. absurd cc);
      some = λ any. absurd (let some = any.1 in let count = ap (λ (rows : List Row). length rows) no_rows_there in omega (arith, any, count));
    };
    chains = λ bucket lt. record {
      exact = subst (λ (chain : List ℕ). IsExactly (page_count alone) (λ i. is_in_bucket bucket (page_at alone i)) chain) (sym (no_bucket bucket lt))
          (none_exactly (λ i. is_in_bucket bucket (page_at alone i)) (no_data bucket));
      before = subst (λ (chain : List ℕ). NamesBefore (λ i. before_of (page_at alone i)) 0 chain) (sym (no_bucket bucket lt)) tt;
    };
    reuse = subst (λ (chain : List ℕ). All (λ i. kind_of (page_at alone i) ≡ REUSE_KIND) chain) (sym no_reuse) (λ k d lt. absurd (omega (arith, lt)));
    each_once = subst (λ (places : List ℕ). IsExactly (page_count alone) (λ i. nat_le 1 i) places) (sym no_place) (none_exactly (λ i. nat_le 1 i) refl);
  }
