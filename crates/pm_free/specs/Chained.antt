-- The chains of the buckets, also while a page stands in another chain than that for its room, or in none.
use Rattle.std.specs.Prelude.{◌≡◌, ◌≢◌, ℕ, ◌<◌, Bool, List, if◌then◌else◌, ◌==◌}
use Rattle.pm_types.specs.declared.page_id.PageId.{PageId}
use Rattle.pm_data.specs.declared.layout.TheConstants.{DATA_KIND}
use Rattle.pm_data.specs.DataPages.{rows_of}
use Rattle.pm_meta.specs.declared.layout.TheConstants.{BUCKETS}
use Rattle.pm_meta.specs.declared.slots.MetaSlot.{MetaSlot}
use Rattle.pm_meta.specs.declared.slots.MetaSlot.TheVariants.{Bucket}
use Rattle.pm_meta.specs.MetaPages.{IsSlot}
use Rattle.pm_pages.specs.Rows.{Partition, page_at, page_count, number_in, kind_of, rows_on}
use Rattle.pm_pages.specs.Chains.{IsExactly, NamesBefore, before_of, reuse_next_of, bucket_chain, bucket_of}
use Rattle.pm_free.specs.Passing.{KeepsPassing}

-- the bucket of a page by its room; a page that is no data page has none of the buckets
abbrev pub home_of : List ℕ → ℕ
home_of page = if kind_of page == DATA_KIND then bucket_of page else BUCKETS

-- the bucket of each page by its room
abbrev pub homes_in : Partition → ℕ → ℕ
homes_in pages i = home_of (page_at pages i)

-- page i has this bucket, and every other page the one that it had
abbrev pub with_home : (ℕ → ℕ) → ℕ → ℕ → (ℕ → ℕ)
with_home home i bucket = λ j. if j == i then bucket else home j

-- the chain of a bucket has exactly the pages that pass the test, each once, and each of them names the one
-- before it
pub record IsChainOf (pages : Partition) (bucket : ℕ) (test : ℕ → Bool) : Type 0 where
  pub exact : IsExactly (page_count pages) test (bucket_chain pages bucket)
  pub before : NamesBefore (λ i. before_of (page_at pages i)) 0 (bucket_chain pages bucket)

-- the chain of each bucket has exactly the pages of that bucket, as `home` says which one is a page's
pub record AreChained (pages : Partition) (home : ℕ → ℕ) : Type 0 where
  pub each : (bucket : ℕ) → bucket < BUCKETS → IsChainOf pages bucket (λ i. home i == bucket)

-- of a page all stayed but its neighbours in a chain
pub record KeepsRows (was now : List ℕ) : Type 0 where
  pub kind : kind_of now ≡ kind_of was
  pub home : home_of now ≡ home_of was
  pub rows : (id : PageId) → rows_on id now ≡ rows_on id was
  pub items : kind_of was ≡ DATA_KIND → rows_of now ≡ rows_of was
  pub reuse : reuse_next_of now ≡ reuse_next_of was

-- of the meta page all stayed but the heads of the buckets
abbrev pub KeepsNumbers : Partition → Partition → Type 0
KeepsNumbers old new = (slot : MetaSlot) → IsSlot slot → ((bucket : ℕ) → slot ≢ Bucket bucket)
    → number_in new slot ≡ number_in old slot

-- No pages changed but the meta page and data pages, and of those no more than heads of buckets and
-- neighbours. Each page that passed its check does so still.
pub record KeepsAllRows (old new : Partition) : Type 0 where
  pub numbers : KeepsNumbers old new
  pub pages : (j : ℕ) → KeepsRows (page_at old j) (page_at new j)
  pub others : (j : ℕ) → j ≢ 0 → kind_of (page_at old j) ≢ DATA_KIND → new j ≡ old j
  pub passes : (j : ℕ) → KeepsPassing old new j

-- A page that stood in the chain of one bucket stands in that of another, or in none, where the bucket is
-- `BUCKETS`. No more than that changed.
pub record MovesPage (old new : Partition) (at from to : ℕ) : Type 0 where
  pub keeps : KeepsAllRows old new
  pub chains : (home : ℕ → ℕ) → AreChained old home → home at ≡ from → AreChained new (with_home home at to)

-- a page that stood in the chain of one bucket stands in that for its room; no more than that changed
pub record SettlesPage (old new : Partition) (at from : ℕ) : Type 0 where
  pub keeps : KeepsAllRows old new
  pub chains : (home : ℕ → ℕ) → AreChained old home → home at ≡ from
      → AreChained new (with_home home at (homes_in new at))
