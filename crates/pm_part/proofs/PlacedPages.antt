-- How often a page stands in the chains of all buckets together, and in all that a well-formed partition places.
use Rattle.std.proofs.Common.{◌≡◌, ◌≢◌, ℕ, zero, suc, ◌+◌, ◌<◌, ◌≤◌, ◌++◌, List, refl, sym, ap, ◌∙◌, inl, inr, arith}
use Rattle.std.specs.Prelude.{if◌then◌else◌}
use Rattle.std.specs.List.{flat_map, range_with_len}
use Rattle.std.proofs.lemmas.Bool.{cases_eq, cases_lt, eq-eqb, ne_eqb}
use Rattle.pm_data.specs.declared.layout.TheConstants.{DATA_KIND}
use Rattle.pm_meta.specs.declared.layout.TheConstants.{BUCKETS}
use Rattle.pm_pages.specs.Rows.{Partition, page_at, page_count, kind_of}
use Rattle.pm_pages.specs.Chains.{times, bucket_chain, bucket_of, is_in_bucket, reuse_chain}
use Rattle.pm_pages.specs.Trees.{nodes_of}
use Rattle.pm_pages.specs.WellFormed.{placed_pages}
use Rattle.pm_pages.proofs.ChainWalks.{times-append}
use Rattle.pm_free.specs.Placed.{HasChains}
use Rattle.pm_part.specs.LaidOut.{joined}

cut : (f : ℕ → List ℕ) (from n j : ℕ) → times j (flat_map f (range_with_len from (suc n))) ≡ times j (f from) + times j (flat_map f (range_with_len (from + 1) n))
cut f from n j =
    let whole : times j (flat_map f (range_with_len from (suc n))) ≡ times j (f from ++ flat_map f (range_with_len (from + 1) n)) = refl in
    whole ∙ times-append j (f from) (flat_map f (range_with_len (from + 1) n))

none_sum : (f : ℕ → List ℕ) (from n j : ℕ) → ((k : ℕ) → from ≤ k → k < from + n → times j (f k) ≡ 0) → times j (flat_map f (range_with_len from n)) ≡ 0
none_sum f from zero j each = refl
none_sum f from (suc n) j each = omega (arith, cut f from n j, each from (omega arith) (omega arith), none_sum f (from + 1) n j (λ k low high. each k (omega (arith, low)) (omega (arith, high))))

one_sum : (f : ℕ → List ℕ) (from n at j : ℕ) → from ≤ at → at < from + n → ((k : ℕ) → from ≤ k → k < from + n → k ≢ at → times j (f k) ≡ 0) → times j (flat_map f (range_with_len from n)) ≡ times j (f at)
one_sum f from zero at j low high each = absurd (omega (arith, low, high))
one_sum f from (suc n) at j low high each = elim (cases_eq from at) [
  | inl here ↦ omega (
    arith,
    cut f from n j,
    ap (λ k. times j (f k)) here,
    none_sum f (from + 1) n j (λ k lo hi. each k (omega (arith, lo)) (omega (arith, hi)) (λ e. omega (arith, e, here, lo))),
  )
  | inr other ↦ omega (
    arith,
    cut f from n j,
    each from (omega arith) (omega arith) other,
    one_sum f (from + 1) n at j (later from at other low) (omega (arith, high)) (λ k lo hi ne. each k (omega (arith, lo)) (omega (arith, hi)) ne),
  )
]
  where
    later : (from at : ℕ) → from ≢ at → from ≤ at → from + 1 ≤ at
    later from at other low = elim (cases_lt from at) [ inl lt ↦ omega (arith, lt) | inr ge ↦ absurd (other (omega (arith, low, ge))) ]

-- the chains of all buckets, joined
abbrev pub all_chains : Partition → List ℕ
all_chains pages = flat_map (bucket_chain pages) (range_with_len 0 BUCKETS)

in_chain : (pages : Partition) (j k : ℕ) → HasChains pages → k < BUCKETS → j < page_count pages → times j (bucket_chain pages k) ≡ (if is_in_bucket k (page_at pages j) then 1 else 0)
in_chain pages j k chains few lt = (chains k few).exact.once j lt

-- 1 where a page is in this bucket, 0 where it isn't
abbrev pub is_here : Partition → ℕ → ℕ → ℕ
is_here pages j k = if is_in_bucket k (page_at pages j) then 1 else 0

-- a page of another kind stands in none of them
pub chains_none : (pages : Partition) (j : ℕ) → HasChains pages → j < page_count pages → kind_of (page_at pages j) ≢ DATA_KIND → times j (all_chains pages) ≡ 0
chains_none pages j chains lt other = none_sum (bucket_chain pages) 0 BUCKETS j (λ k low high.
    in_chain pages j k chains (omega (arith, high)) lt ∙ simp (ne_eqb (kind_of (page_at pages j)) DATA_KIND other) refl)

-- nor does a data page of a bucket past the last
pub chains_past : (pages : Partition) (j : ℕ) → HasChains pages → j < page_count pages → BUCKETS ≤ bucket_of (page_at pages j) → times j (all_chains pages) ≡ 0
chains_past pages j chains lt past = none_sum (bucket_chain pages) 0 BUCKETS j (λ k low high.
    in_chain pages j k chains (omega (arith, high)) lt ∙ away k (omega (arith, high)))
  where
    away : (k : ℕ) → k < 16 → is_here pages j k ≡ 0
    away k high = elim (cases_eq (kind_of (page_at pages j)) DATA_KIND) [
      | inl e ↦ simp (eq-eqb (kind_of (page_at pages j)) DATA_KIND e, ne_eqb (bucket_of (page_at pages j)) k (λ z. omega (arith, z, past, high))) refl
      | inr ne ↦ simp (ne_eqb (kind_of (page_at pages j)) DATA_KIND ne) refl
    ]

-- a data page of another one stands there once
pub chains_once : (pages : Partition) (j : ℕ) → HasChains pages → j < page_count pages → kind_of (page_at pages j) ≡ DATA_KIND → bucket_of (page_at pages j) < BUCKETS → times j (all_chains pages) ≡ 1
chains_once pages j chains lt kind few =
    let bucket = bucket_of (page_at pages j) in
    one_sum (bucket_chain pages) 0 BUCKETS bucket j (omega arith) (omega (arith, few)) (λ k low high ne.
    in_chain pages j k chains (omega (arith, high)) lt
    ∙ simp (eq-eqb (kind_of (page_at pages j)) DATA_KIND kind, ne_eqb bucket k (λ e. ne (sym e))) refl)
    ∙ in_chain pages j bucket chains few lt
    ∙ simp (eq-eqb (kind_of (page_at pages j)) DATA_KIND kind, eq-eqb bucket bucket refl) refl

-- all that a partition places: the pages of its trees, of its buckets and of the reuse chain
pub placed_times : (pages : Partition) (j : ℕ) → times j (placed_pages pages) ≡ times j (joined (nodes_of pages)) + times j (all_chains pages) + times j (reuse_chain pages)
unfolding placed_pages
placed_times pages j =
    let trees : List ℕ = joined (nodes_of pages) in
    let rest : List ℕ = all_chains pages ++ reuse_chain pages in
    let whole : times j (placed_pages pages) ≡ times j (trees ++ rest) = refl in
    omega (arith, whole, times-append j trees rest, times-append j (all_chains pages) (reuse_chain pages))
