-- Pages that are taken for a new use, and pages that are given back: the reuse chain's first page
-- is the next one that is taken, and where the chain is empty the page count rises.
use Rattle.std.specs.Prelude.{◌≡◌, ◌≢◌, ℕ, ◌+◌, ◌-◌, ◌^◌, ◌<◌, ◌≤◌, ◌⊎◌, List, Some, Result, IsErrOf}
use Rattle.std.specs.Prelude.{length, replicate}
use Rattle.pm_types.specs.declared.page_id.PageId.{PageId}
use Rattle.pm_types.specs.declared.fault.PageFault.{PageFault}
use Rattle.pm_types.specs.declared.fault.PageFault.TheVariants.{Failed, BadPage}
use Rattle.pm_types.specs.Counts.{HasRisen}
use Rattle.pm_types.specs.Fields.{u64_at}
use Rattle.pm_types.specs.Ids.{page_id}
use Rattle.pm_meta.specs.declared.layout.TheConstants.{REUSE_KIND}
use Rattle.pm_meta.specs.declared.slots.MetaSlot.{MetaSlot}
use Rattle.pm_meta.specs.declared.slots.MetaSlot.TheVariants.{Reuse, Pages}
use Rattle.pm_meta.specs.MetaPages.{field_of, next_of, IsSlot, IsInBounds, IsStoredMeta, IsStoredReuse}
use Rattle.pm_pages.specs.Rows.{kind_of}
use Rattle.pm_pages.specs.Paged.{Paged, IsTold, IsInHand, IsLent, CoversByte, IsBadPage, IsAfterGap}
use Rattle.pm_pages.specs.Edits.{EditsPages, HasMeta}

-- page 0, and page i
abbrev pub IsMetaOr : ℕ → ℕ → Type 0
IsMetaOr i j = (j ≡ 0) ⊎ (j ≡ i)

-- One number of the meta page was set. Where the page passed its check and the number is in bounds,
-- it passes it still.
pub record SetsNumber (was now : List ℕ) (slot : MetaSlot) (value : ℕ) : Type 0 where
  pub here : field_of now slot ≡ value
  pub others : (other : MetaSlot) → IsSlot other → other ≢ slot → field_of now other ≡ field_of was other
  pub size : length now ≡ length was
  pub name : u64_at now 0 ≡ u64_at was 0
  pub stored : (id : PageId) (max_rows : ℕ) → IsStoredMeta id max_rows was
      → IsInBounds max_rows was slot value → IsStoredMeta id max_rows now

-- a meta page became another
pub record MetaBecomes (old new : Paged) (became : List ℕ → List ℕ → Type 0) : Type 0 where
  pub was : List ℕ
  pub now : List ℕ
  pub before : old.pages 0 ≡ Some was
  pub after : new.pages 0 ≡ Some now
  pub change : became was now

-- page i was the first of the reuse chain, and the next one is the first now
pub record TakesReused (T : Type 0) (old : Paged) (i : ℕ) (was now : List ℕ) : Type 0 where
  pub page : List ℕ
  pub told : IsTold T old i → old.pages i ≡ Some page
  pub kind : kind_of page ≡ REUSE_KIND
  pub head : field_of was Reuse ≡ i
  pub below : i < field_of was Pages
  pub sets : SetsNumber was now Reuse (next_of page)

-- the reuse chain was empty, and page i is the one after the last, which is one of the partition now
pub record TakesNext (i : ℕ) (was now : List ℕ) : Type 0 where
  pub none : field_of was Reuse ≡ 0
  pub index : field_of was Pages ≡ i
  pub sets : SetsNumber was now Pages (i + 1)

-- the numbers of the meta page once page i was taken
abbrev pub Takes : Type 0 → Paged → ℕ → List ℕ → List ℕ → Type 0
Takes T old i was now = TakesReused T old i was now ⊎ TakesNext i was now

-- Page i was taken: it is all zeros, lent to be written, and covered by its patch as a whole. No
-- other page but the meta page was changed. At most so many pages were asked for that weren't
-- before.
pub record TakesPage (T : Type 0) (old new : Paged) (most i : ℕ) : Type 0 where
  pub some : 1 ≤ i
  pub edits : EditsPages T old new (IsMetaOr i) most
  pub zeros : new.pages i ≡ Some (replicate old.page_size 0)
  pub lent : IsLent new i
  pub covered : (k : ℕ) → k < old.page_size → CoversByte (new.patch i) k
  pub meta : HasMeta new
  pub numbers : MetaBecomes old new (Takes T old i)

-- page i is the first of the reuse chain now, and names the one that was; no other page but the
-- meta page was changed
pub record GivesPage (T : Type 0) (old new : Paged) (i : ℕ) : Type 0 where
  pub edits : EditsPages T old new (IsMetaOr i) 1
  pub page : List ℕ
  pub here : new.pages i ≡ Some page
  pub size : length page ≡ old.page_size
  pub stored : IsStoredReuse (page_id old.part i) page
  pub meta : HasMeta new
  pub numbers : MetaBecomes old new
      (λ was now. (next_of page ≡ field_of was Reuse) × SetsNumber was now Reuse i)

-- page i is at hand and isn't a reuse page
pub record IsOfOtherUse (p : Paged) (i : ℕ) : Type 0 where
  pub page : List ℕ
  pub in_hand : IsInHand p i page
  pub kind : kind_of page ≢ REUSE_KIND

-- page i is at hand and is a reuse page, and this is the one after it
pub record IsReuseIn (p : Paged) (i next : ℕ) : Type 0 where
  pub page : List ℕ
  pub in_hand : IsInHand p i page
  pub kind : kind_of page ≡ REUSE_KIND
  pub is : next ≡ next_of page

-- the reuse chain is empty, and the page count is 0 or the largest number
pub record HasNoNext (meta : List ℕ) : Type 0 where
  pub none : field_of meta Reuse ≡ 0
  pub count : (field_of meta Pages ≡ 0) ⊎ (field_of meta Pages ≡ 2 ^ 32 - 1)

-- the reuse chain's first page is past the page count, or of another use
pub record HasWrongReuse (p : Paged) (meta : List ℕ) : Type 0 where
  pub some : 1 ≤ field_of meta Reuse
  pub wrong : (field_of meta Pages ≤ field_of meta Reuse) ⊎ IsOfOtherUse p (field_of meta Reuse)

-- the meta page, which has this name, names no page that can be taken
pub record NamesNoSpare (p : Paged) (id : PageId) : Type 0 where
  pub name : id ≡ page_id p.part 0
  pub meta : List ℕ
  pub in_hand : IsInHand p 0 meta
  pub wrong : HasNoNext meta ⊎ HasWrongReuse p meta

-- page i is the first of the reuse chain, as the meta page says, which is at hand
pub record IsFirstReuse (p : Paged) (i : ℕ) : Type 0 where
  pub some : 1 ≤ i
  pub meta : List ℕ
  pub in_hand : IsInHand p 0 meta
  pub head : field_of meta Reuse ≡ i
  pub below : i < field_of meta Pages

-- the reuse chain is empty, and page i is the one after the last, as the meta page says, which is at hand
pub record IsAfterLast (p : Paged) (i : ℕ) : Type 0 where
  pub meta : List ℕ
  pub in_hand : IsInHand p 0 meta
  pub none : field_of meta Reuse ≡ 0
  pub count : field_of meta Pages ≡ i

-- page i is the one that is taken next
abbrev pub IsTakenNext : Paged → ℕ → Type 0
IsTakenNext p i = IsFirstReuse p i ⊎ IsAfterLast p i

-- the first page of the reuse chain, which has this name, is bad
pub record HasBadReuse (T : Type 0) (p : Paged) (id : PageId) : Type 0 where
  pub index : ℕ
  pub is_first : IsFirstReuse p index
  pub bad : IsBadPage T p index id

-- the page before the one that is taken next has this name, and isn't there
pub record HasGapBelow (T : Type 0) (p : Paged) (id : PageId) : Type 0 where
  pub index : ℕ
  pub is_next : IsTakenNext p index
  pub gap : IsAfterGap T p index id

-- a call of the disk failed; or the meta page names no page that can be taken, or the reuse chain's
-- first page is bad, or the page before the one that is taken next isn't there
pub record HasTakeCause {R : Type 0} (T : Type 0) (old new : Paged) (result : Result R PageFault) : Type 0 where
  pub failed : IsErrOf result Failed → HasRisen old.faults new.faults
  pub bad : (id : PageId) → IsErrOf result (BadPage id)
      → NamesNoSpare new id ⊎ HasBadReuse T old id ⊎ HasGapBelow T old id
