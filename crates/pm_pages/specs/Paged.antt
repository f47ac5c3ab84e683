-- What a contract sees of the pages of a partition that are asked for one at a time, and what each
-- call changes.
--
-- `T` holds where the store reports the content of pages that weren't read, as one in memory does.
use Rattle.std.specs.Prelude.{◌≡◌, ◌≢◌, ℕ, ◌+◌, ◌-◌, ◌<◌, ◌≤◌, ◌⊎◌, ◌==◌, if◌then◌else◌, Bool, List}
use Rattle.std.specs.Prelude.{Option, Some, None, IsSome, IsSomeAnd, IfSome, IsTrue, Result, IsErrOf}
use Rattle.std.specs.Prelude.{length, replicate}
use Rattle.pm_types.specs.declared.limits.TheConstants.{OP_PAGES}
use Rattle.pm_types.specs.declared.page_id.PageId.{PageId}
use Rattle.pm_types.specs.declared.fault.PageFault.{PageFault}
use Rattle.pm_types.specs.declared.fault.PageFault.TheVariants.{Failed, BadPage}
use Rattle.pm_types.specs.Counts.{HasRisen}
use Rattle.pm_types.specs.Ids.{page_id}
use Rattle.pm_types.specs.Spans.{Coverage, Covers, AlsoCovers}
use Rattle.pm_pages.specs.Passes.{PassesAt}
use Rattle.pm_pages.specs.PageLists.{ReadsAt}

pub record Paged : Type 0 where
  -- how many bytes each page has, how many rows the partition may have, and the partition's number
  pub page_size : ℕ
  pub max_rows : ℕ
  pub part : ℕ
  -- the pages by index
  pub pages : ℕ → Option (List ℕ)
  -- the pages at hand: read or made, or held under their name
  pub known : ℕ → Bool
  -- the pages that were asked for since `ready`, and how many others may be
  pub asked : ℕ → Bool
  pub spare : ℕ
  -- the pages that were lent to be written since then, and the patch of each of which one was noted
  -- or that was made
  pub lent : ℕ → Bool
  pub patch : ℕ → Option Coverage
  -- the count of failed calls on the disk
  pub faults : ℕ

-- page i is at hand, or the store reports it
abbrev pub IsTold : Type 0 → Paged → ℕ → Type 0
IsTold T p i = T ⊎ IsTrue (p.known i)

-- page i is there
abbrev pub IsThere : Paged → ℕ → Type 0
IsThere p i = IsSome (p.pages i)

-- fewer than `OP_PAGES` different pages were asked for, or this one among them
abbrev pub HasRoomFor : Paged → ℕ → Type 0
HasRoomFor p i = IsTrue (p.asked i) ⊎ (0 < p.spare)

-- no page was lent to be written since `ready`
abbrev pub NoneLent : Paged → Type 0
NoneLent p = (i : ℕ) → IsTrue (p.lent i) → ⊥

-- as page i these bytes pass their check
abbrev pub PassesIn : Paged → ℕ → List ℕ → Type 0
PassesIn p i bytes = PassesAt p.page_size p.max_rows p.part i bytes

-- each page at hand that is there reads as what it says
pub record AllReadable (p : Paged) : Type 0 where
  pub each : (i : ℕ) → IsTrue (p.known i) → IfSome (p.pages i) (ReadsAt i)

-- the pages, with these bytes as page i
abbrev pub with_page : (ℕ → Option (List ℕ)) → ℕ → List ℕ → (ℕ → Option (List ℕ))
with_page pages i bytes = λ j. if j == i then Some bytes else pages j

-- what a patch covers, if there is one
abbrev pub CoversByte : Option Coverage → ℕ → Type 0
CoversByte None k = ⊥
CoversByte (Some patch) k = Covers patch k

-- the patch of a page of this size that is the whole page
pub record IsWhole (page_size : ℕ) (patch : Coverage) : Type 0 where
  pub whole : IsTrue patch.whole
  pub size : patch.page_size ≡ page_size

-- the patch that covers what one covers, if there is one, and another
abbrev pub JoinsPatch : Option Coverage → Coverage → Coverage → Type 0
JoinsPatch None patch joined = joined ≡ patch
JoinsPatch (Some old) patch joined = AlsoCovers old joined (Covers patch)

-- the same partition of a store of the same shape; the count of failed calls doesn't fall
pub record SamePartition (old new : Paged) : Type 0 where
  pub page_size : new.page_size ≡ old.page_size
  pub max_rows : new.max_rows ≡ old.max_rows
  pub part : new.part ≡ old.part
  pub faults : old.faults ≤ new.faults

-- what asking for page i took of the budget: nothing where it was asked for before, or isn't now
pub record TakesRoom (old new : Paged) (i : ℕ) : Type 0 where
  pub others : (j : ℕ) → IsTrue (old.asked j) → IsTrue (new.asked j)
  pub most : old.spare ≤ new.spare + 1
  pub free : IsTrue (new.asked i) ⊎ (old.spare ≤ new.spare)
  pub again : IsTrue (old.asked i) → old.spare ≤ new.spare

-- Page i was asked for. What was at hand stays so, and what is at hand now besides reads as what it says.
pub record AsksPage (T : Type 0) (old new : Paged) (i : ℕ) : Type 0 where
  pub pages : (j : ℕ) → IsTold T old j → new.pages j ≡ old.pages j
  pub known : (j : ℕ) → IsTrue (old.known j) → IsTrue (new.known j)
  pub reads : (j : ℕ) → IsTrue (new.known j) → IsTrue (old.known j) ⊎ IsSomeAnd (new.pages j) (ReadsAt j)
  pub lent : (j : ℕ) → IsTrue (old.lent j) → IsTrue (new.lent j)
  pub patches : (j : ℕ) → new.patch j ≡ old.patch j
  pub room : TakesRoom old new i
  pub same : SamePartition old new

-- no page was lent
abbrev pub LendsNone : Paged → Paged → Type 0
LendsNone old new = (j : ℕ) → IsTrue (new.lent j) → IsTrue (old.lent j)

-- page i was asked for and not given: no page was lent, and the budget is as it was
pub record AsksInVain (T : Type 0) (old new : Paged) (i : ℕ) : Type 0 where
  pub asks : AsksPage T old new i
  pub none_lent : LendsNone old new
  pub spare : old.spare ≤ new.spare

-- these bytes are those of page i, which is at hand, or read as what they say
pub record IsPageIn (T : Type 0) (p : Paged) (i : ℕ) (bytes : List ℕ) : Type 0 where
  pub same : IsTold T p i → p.pages i ≡ Some bytes
  pub size : length bytes ≡ p.page_size
  pub reads : IsTrue (p.known i) ⊎ ReadsAt i bytes

-- page i is the first, and isn't there
pub record IsFirstAbsent (T : Type 0) (p : Paged) (i : ℕ) : Type 0 where
  pub first : i ≡ 0
  pub absent : IsTold T p i → p.pages i ≡ None

-- page i was asked for, and is at hand with these bytes
pub record IsInHand (p : Paged) (i : ℕ) (bytes : List ℕ) : Type 0 where
  pub known : IsTrue (p.known i)
  pub asked : IsTrue (p.asked i)
  pub page : p.pages i ≡ Some bytes

-- page i was asked for, and is at hand to be written
pub record IsLent (p : Paged) (i : ℕ) : Type 0 where
  pub known : IsTrue (p.known i)
  pub asked : IsTrue (p.asked i)
  pub lent : IsTrue (p.lent i)
  pub there : IsThere p i

-- page i has these bytes now, and nothing else happened
pub record WritesPage (old new : Paged) (i : ℕ) (bytes : List ℕ) : Type 0 where
  pub pages : (j : ℕ) → new.pages j ≡ with_page old.pages i bytes j
  pub known : (j : ℕ) → new.known j ≡ old.known j
  pub asked : (j : ℕ) → new.asked j ≡ old.asked j
  pub lent : (j : ℕ) → new.lent j ≡ old.lent j
  pub patches : (j : ℕ) → new.patch j ≡ old.patch j
  pub spare : new.spare ≡ old.spare
  pub same : SamePartition old new

-- page i was made anew: all zeros, and its patch is the whole page; every other page is as it was
pub record MakesPage (T : Type 0) (old new : Paged) (i : ℕ) : Type 0 where
  pub here : new.pages i ≡ Some (replicate old.page_size 0)
  pub pages : (j : ℕ) → j ≢ i → IsTold T old j → new.pages j ≡ old.pages j
  pub known : (j : ℕ) → IsTrue (old.known j) → IsTrue (new.known j)
  pub only : (j : ℕ) → j ≢ i → IsTrue (new.known j) → IsTrue (old.known j)
  pub lends : IsLent new i
  pub lent : (j : ℕ) → IsTrue (old.lent j) → IsTrue (new.lent j)
  pub whole : IsSomeAnd (new.patch i) (IsWhole old.page_size)
  pub patches : (j : ℕ) → j ≢ i → new.patch j ≡ old.patch j
  pub room : TakesRoom old new i
  pub same : SamePartition old new

-- this patch was joined to that of page i, and nothing else happened
pub record NotesPatch (T : Type 0) (old new : Paged) (i : ℕ) (patch : Coverage) : Type 0 where
  pub pages : (j : ℕ) → IsTold T old j → new.pages j ≡ old.pages j
  pub known : (j : ℕ) → new.known j ≡ old.known j
  pub asked : (j : ℕ) → new.asked j ≡ old.asked j
  pub lent : (j : ℕ) → new.lent j ≡ old.lent j
  pub joins : IsSomeAnd (new.patch i) (JoinsPatch (old.patch i) patch)
  pub patches : (j : ℕ) → j ≢ i → new.patch j ≡ old.patch j
  pub spare : old.spare ≤ new.spare
  pub same : SamePartition old new

-- The pages that were asked for are given up, and their count begins anew. Some may be at hand no more.
pub record GivesUpPages (T : Type 0) (old new : Paged) : Type 0 where
  pub pages : (j : ℕ) → IsTold T new j → new.pages j ≡ old.pages j
  pub known : (j : ℕ) → IsTrue (new.known j) → IsTrue (old.known j)
  pub spare : new.spare ≡ OP_PAGES
  pub none_lent : NoneLent new
  pub no_patch : (i : ℕ) → new.patch i ≡ None
  pub same : SamePartition old new

-- Page i, which has this name, isn't there, or its bytes don't pass. A first page that isn't there isn't bad.
pub record IsBadPage (T : Type 0) (p : Paged) (i : ℕ) (id : PageId) : Type 0 where
  pub name : id ≡ page_id p.part i
  pub known : IsTrue (p.known i) → p.pages i ≡ None
  pub told : T → IfSome (p.pages i) (λ bytes. PassesIn p i bytes → ⊥)
  pub first : i ≡ 0 → IsTold T p i → IsThere p i

-- a call of the disk failed, or page i is bad
pub record HasPageCause {R : Type 0} (T : Type 0) (old : Paged) (now : ℕ) (i : ℕ)
    (result : Result R PageFault) : Type 0 where
  pub failed : IsErrOf result Failed → HasRisen old.faults now
  pub bad : (id : PageId) → IsErrOf result (BadPage id) → IsBadPage T old i id

-- the page before page i has this name, and isn't there
pub record IsAfterGap (T : Type 0) (p : Paged) (i : ℕ) (id : PageId) : Type 0 where
  pub later : 0 < i
  pub name : id ≡ page_id p.part (i - 1)
  pub absent : IsTold T p (i - 1) → p.pages (i - 1) ≡ None

-- a call of the disk failed, or the page before page i isn't there
pub record HasGapCause {R : Type 0} (T : Type 0) (old : Paged) (now : ℕ) (i : ℕ)
    (result : Result R PageFault) : Type 0 where
  pub failed : IsErrOf result Failed → HasRisen old.faults now
  pub bad : (id : PageId) → IsErrOf result (BadPage id) → IsAfterGap T old i id
