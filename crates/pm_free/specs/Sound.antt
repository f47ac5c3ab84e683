-- When calls on data pages meet no bad page, and what stays sound.
use Rattle.std.specs.Prelude.{◌≡◌, ◌≢◌, ℕ, ◌+◌, ◌<◌}
use Rattle.pm_data.specs.declared.layout.TheConstants.{DATA_KIND}
use Rattle.pm_meta.specs.declared.layout.TheConstants.{BUCKETS}
use Rattle.pm_pages.specs.Rows.{Partition, page_at, kind_of}
use Rattle.pm_pages.specs.Paged.{Paged}
use Rattle.pm_pages.specs.SoundPages.{IsSound, CanTake}
use Rattle.pm_free.specs.Chained.{AreChained}

-- the page with this index, if there is one, is a data page of the partition
abbrev pub IsDataOrZero : Partition → ℕ → Type 0
IsDataOrZero pages i = i ≢ 0 → kind_of (page_at pages i) ≡ DATA_KIND

-- The store reports its pages, each of which is sound. The chain of each bucket has exactly the pages
-- of that bucket, as `home` says which one is a page's, and these are data pages.
pub record HasSoundChains (T : Type 0) (p : Paged) (home : ℕ → ℕ) : Type 0 where
  pub told : T
  pub sound : IsSound p
  pub chained : AreChained p.pages home
  pub data_pages : (j : ℕ) → home j < BUCKETS → kind_of (page_at p.pages j) ≡ DATA_KIND

-- where the pages are sound they are so still
abbrev pub KeepsSound : Type 0 → Paged → Paged → Type 0
KeepsSound T old new = T → IsSound old → IsSound new

-- all but so many of the pages that can be taken can be taken still
abbrev pub LeavesSpare : Type 0 → Paged → Paged → ℕ → Type 0
LeavesSpare T old new most =
    T → (limit left : ℕ) → CanTake limit old (most + left) → CanTake limit new left
