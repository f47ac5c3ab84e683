-- Pages that were given back: the reuse chain has them now, before those that it had.
use Rattle.std.specs.Prelude.{◌≡◌, ℕ, ◌≤◌, List, [], ◌++◌, Some, length}
use Rattle.pm_types.specs.Ids.{page_id}
use Rattle.pm_meta.specs.declared.slots.MetaSlot.TheVariants.{Reuse}
use Rattle.pm_meta.specs.MetaPages.{field_of, next_of, IsStoredReuse}
use Rattle.pm_meta.specs.declared.layout.TheConstants.{REUSE_KIND}
use Rattle.pm_pages.specs.Rows.{Partition, page_at, page_count, kind_of}
use Rattle.pm_pages.specs.Chains.{times, reuse_chain}
use Rattle.pm_pages.specs.Paged.{Paged}
use Rattle.pm_pages.specs.Edits.{HasMeta}
use Rattle.pm_pages.specs.SparePages.{SetsNumber, MetaBecomes}
use Rattle.pm_pages.specs.SpareChains.{HasSpare, MovesSpare}

-- These pages were given back, the first of them last; the page count is as it was. They are reuse pages now,
-- and so is each page that was one.
pub record GivesBack (old new : Partition) (given : List ℕ) : Type 0 where
  pub count : page_count new ≡ page_count old
  pub moves : MovesSpare old new [] given
  pub chain : HasSpare old → reuse_chain new ≡ given ++ reuse_chain old
  pub reuse : (j : ℕ) → 1 ≤ times j given → (1 ≤ j) × (kind_of (page_at new j) ≡ REUSE_KIND)
  pub stays : (j : ℕ) → 1 ≤ j → kind_of (page_at old j) ≡ REUSE_KIND → kind_of (page_at new j) ≡ REUSE_KIND

-- page i is the first of the reuse chain now, and names the one that was
pub record IsGiven (old new : Paged) (i : ℕ) : Type 0 where
  pub page : List ℕ
  pub here : new.pages i ≡ Some page
  pub size : length page ≡ old.page_size
  pub stored : IsStoredReuse (page_id old.part i) page
  pub meta : HasMeta new
  pub numbers : MetaBecomes old new
      (λ was now. (next_of page ≡ field_of was Reuse) × SetsNumber was now Reuse i)
