-- The chains of a partition: each page of a chain names the next one, the last one 0.
use Rattle.std.specs.Prelude.{◌≡◌, ℕ, zero, suc, ◌+◌, ◌*◌, ◌/◌, ◌<◌, Bool, ◌&&◌, List, [], ◌∷◌}
use Rattle.std.specs.Prelude.{if◌then◌else◌, ◌==◌, All, length}
use Rattle.pm_data.specs.declared.layout.TheConstants.{DATA_KIND}
use Rattle.pm_data.specs.DataPages.{room_of, data_of}
use Rattle.pm_meta.specs.declared.layout.TheConstants.{BUCKETS, REUSE_KIND}
use Rattle.pm_meta.specs.declared.slots.MetaSlot.TheVariants.{Bucket, Reuse}
use Rattle.pm_meta.specs.MetaPages as reuse_page
use Rattle.pm_pages.specs.Rows.{Partition, page_at, number_in, page_count, kind_of}

-- how often a number stands in a list
abbrev pub times : ℕ → List ℕ → ℕ
times i [] = 0
times i (j ∷ js) = (if j == i then 1 else 0) + times i js

-- the list has exactly the numbers below n that pass the test, each once
pub record IsExactly (n : ℕ) (test : ℕ → Bool) (list : List ℕ) : Type 0 where
  pub below : All (λ i. i < n) list
  pub once : (i : ℕ) → i < n → times i list ≡ (if test i then 1 else 0)

-- the pages from this one on, each the one that the page before it names, up to 0; of so many turns at most
abbrev pub walk : (ℕ → ℕ) → ℕ → ℕ → List ℕ
walk next zero at = []
walk next (suc turns) at = if at == 0 then [] else at ∷ walk next turns (next at)

-- the page that a data page names as the next in its chain, and as the one before; any other page names none
abbrev pub next_of : List ℕ → ℕ
next_of page = if kind_of page == DATA_KIND then (data_of page).next else 0

abbrev pub before_of : List ℕ → ℕ
before_of page = if kind_of page == DATA_KIND then (data_of page).prev else 0

-- the page that a reuse page names as the next in its chain; any other page names none
abbrev pub reuse_next_of : List ℕ → ℕ
reuse_next_of page = if kind_of page == REUSE_KIND then reuse_page.next_of page else 0

-- the chain of a bucket
abbrev pub bucket_chain : Partition → ℕ → List ℕ
bucket_chain pages bucket =
    walk (λ i. next_of (page_at pages i)) (page_count pages) (number_in pages (Bucket bucket))

-- the chain of the pages that can be taken anew
abbrev pub reuse_chain : Partition → List ℕ
reuse_chain pages = walk (λ i. reuse_next_of (page_at pages i)) (page_count pages) (number_in pages Reuse)

-- the bucket of a data page: how many sixteenths of the page are room for another row
abbrev pub bucket_of : List ℕ → ℕ
bucket_of page = room_of page * BUCKETS / length page

-- whether a page is a data page of this bucket
abbrev pub is_in_bucket : ℕ → List ℕ → Bool
is_in_bucket bucket page = (kind_of page == DATA_KIND) && (bucket_of page == bucket)

-- each page of a chain names the one before it, the first one this page
abbrev pub NamesBefore : (ℕ → ℕ) → ℕ → List ℕ → Type 0
NamesBefore before first [] = Unit {0}
NamesBefore before first (i ∷ chain) = (before i ≡ first) × NamesBefore before i chain

-- the chain of a bucket has exactly its data pages, each once, and each of them names the one before it
pub record HasChain (pages : Partition) (bucket : ℕ) : Type 0 where
  pub exact : IsExactly (page_count pages) (λ i. is_in_bucket bucket (page_at pages i))
      (bucket_chain pages bucket)
  pub before : NamesBefore (λ i. before_of (page_at pages i)) 0 (bucket_chain pages bucket)

-- the reuse chain has reuse pages alone
abbrev pub HasReuseChain : Partition → Type 0
HasReuseChain pages = All (λ i. kind_of (page_at pages i) ≡ REUSE_KIND) (reuse_chain pages)
