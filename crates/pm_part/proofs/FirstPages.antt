-- A partition that has a meta page alone is laid out, with no item in any index.
use Rattle.std.proofs.Common.{◌≡◌, ◌≢◌, ℕ, ◌<◌, ◌≤◌, List, [], ◌++◌, false, length, refl, sym, ap, subst, ◌∙◌, arith}
use Rattle.std.specs.Prelude.{if◌then◌else◌, All, Any, AllPairs}
use Rattle.std.specs.List.{flat_map, range_with_len}
use Rattle.std.proofs.lemmas.Bool.{ne_eqb}
use Rattle.pm_types.specs.declared.limits.TheConstants.{CACHES}
use Rattle.pm_types.specs.declared.shape.Shape.{Shape}
use Rattle.pm_types.specs.Ids.{page_id}
use Rattle.pm_btpage.specs.IndexPages.{Item}
use Rattle.pm_data.specs.declared.layout.TheConstants.{DATA_KIND}
use Rattle.pm_meta.specs.declared.layout.TheConstants.{BUCKETS, REUSE_KIND}
use Rattle.pm_meta.specs.declared.slots.MetaSlot.TheVariants.{Bucket, Reuse, Rows}
use Rattle.pm_model.specs.Partitions.{part_of}
use Rattle.pm_pages.specs.declared.row.Row.{Row}
use Rattle.pm_pages.specs.Rows.{Partition, page_at, page_count, number_in, kind_of, rows_on, rows_of}
use Rattle.pm_pages.specs.Chains.{times, walk, bucket_chain, reuse_chain, next_of, before_of, reuse_next_of, is_in_bucket, IsExactly, NamesBefore}
use Rattle.pm_pages.specs.Trees.{root_of, ListsRows, IsItemOf}
use Rattle.pm_pages.specs.WellFormed.{HasKeysOnce, AreDifferent}
use Rattle.pm_pages.proofs.ChainWalks.{walk_none}
use Rattle.pm_free.proofs.Views.{meta_rows}
use Rattle.pm_part.specs.LaidOut.{IsLaidOut}

-- The first page has no data, it is the only page, and every number but the page count is 0.
pub record IsFirstAlone (pages : Partition) : Type 0 where
  pub count : page_count pages ≡ 1
  pub kind : kind_of (page_at pages 0) ≢ DATA_KIND
  pub roots : (cache : ℕ) → cache < CACHES → root_of pages cache ≡ 0
  pub buckets : (bucket : ℕ) → bucket < BUCKETS → number_in pages (Bucket bucket) ≡ 0
  pub reuse : number_in pages Reuse ≡ 0
  pub rows : number_in pages Rows ≡ 0

module _ (pages : Partition) (alone : IsFirstAlone pages) where
  no_reuse : reuse_chain pages ≡ []
  no_reuse = ap (walk (λ i. reuse_next_of (page_at pages i)) (page_count pages)) alone.reuse ∙ walk_none (λ i. reuse_next_of (page_at pages i)) (page_count pages)

  no_chain : (bucket : ℕ) → bucket < BUCKETS → bucket_chain pages bucket ≡ []
  no_chain bucket few = ap (walk (λ i. next_of (page_at pages i)) (page_count pages)) (alone.buckets bucket few) ∙ walk_none (λ i. next_of (page_at pages i)) (page_count pages)

  first_only : (j : ℕ) → j < page_count pages → j ≡ 0
  first_only j lt = omega (arith, lt, alone.count)

  not_in : (bucket j : ℕ) → j < page_count pages → is_in_bucket bucket (page_at pages j) ≡ false
  not_in bucket j lt = subst (λ i. is_in_bucket bucket (page_at pages i) ≡ false) (sym (first_only j lt)) (simp (ne_eqb (kind_of (page_at pages 0)) DATA_KIND alone.kind) refl)

  pub laid_first : IsLaidOut pages (λ cache. [])
  laid_first = record {
    some = omega (arith, alone.count);
    heights = λ cache. 0;
    nodes = λ cache. [];
    indexes = λ cache few. (alone.roots cache few, refl, refl);
    chains = λ bucket few. record {
      exact = subst (IsExactly (page_count pages) (λ i. is_in_bucket bucket (page_at pages i))) (sym (no_chain bucket few)) (record {
        below = λ k d lt. absurd (omega (arith, lt));
        once = λ j lt. sym (ap (λ b. if b then 1 else 0) (not_in bucket j lt));
      });
      before = subst (NamesBefore (λ i. before_of (page_at pages i)) 0) (sym (no_chain bucket few)) tt;
    };
    spare = record {
      kind = subst (All (λ i. kind_of (page_at pages i) ≡ REUSE_KIND)) (sym no_reuse) (λ k d lt. absurd (omega (arith, lt)));
      once = λ j. omega (arith, ap (λ l. times j l) no_reuse);
      some = subst (All (λ i. 1 ≤ i)) (sym no_reuse) (λ k d lt. absurd (omega (arith, lt)));
      below = subst (All (λ i. i < page_count pages)) (sym no_reuse) (λ k d lt. absurd (omega (arith, lt)));
    };
    first = refl;
    each = λ j some lt. absurd (omega (arith, some, lt, alone.count));
  }

  -- there is no row
  pub no_rows : (part : ℕ) → rows_of part pages ≡ []
  no_rows part =
      ap (λ n. flat_map (λ i. rows_on (page_id part i) (page_at pages i)) (range_with_len 0 n)) alone.count
      ∙ ap (λ (l : List Row). l ++ []) (meta_rows (page_id part 0) (page_at pages 0) alone.kind)

  pub keys_first : (shape : Shape) (part : ℕ) → HasKeysOnce shape part pages
  keys_first shape part = record {
    once = subst (AllPairs AreDifferent) (sym (no_rows part)) (λ i j d lt short. absurd (omega (arith, short)));
    of_part = subst (λ (rows : List Row). All (λ (r : Row). part_of r.key shape.partitions ≡ part) rows) (sym (no_rows part)) (λ k d lt. absurd (omega (arith, lt)));
    counted = alone.rows ∙ ap (λ (rows : List Row). length rows) (sym (no_rows part));
  }

  pub lists_first : (part cache : ℕ) → ListsRows (rows_of part pages) cache []
  lists_first part cache = record {
    rising = λ i j lt short. absurd (omega (arith, short));
    all = subst (λ (rows : List Row). All (λ (r : Row). r.cache ≡ cache → Any (λ (item : Item). IsItemOf cache item r) []) rows) (sym (no_rows part)) (λ k d lt. absurd (omega (arith, lt)));
    only = λ k d lt. absurd (omega (arith, lt));
  }
