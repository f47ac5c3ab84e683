-- Removals from the index of a cache, and its roots.
use Rattle.std.specs.Prelude.{◌≡◌, ◌≢◌, ℕ, ◌+◌, ◌<◌, ◌≤◌, ◌⊎◌, List, [], Option, Some, IsTrue, Result}
use Rattle.std.specs.Prelude.{IsErrOf, length}
use Rattle.pm_types.specs.declared.page_id.Link.{Link}
use Rattle.pm_types.specs.Ids.{page_id}
use Rattle.pm_types.specs.PageSizes.{IsPageSize}
use Rattle.pm_types.specs.Counts.{HasRisen}
use Rattle.pm_types.specs.declared.page_id.PageId.{PageId}
use Rattle.pm_types.specs.declared.fault.PageFault.{PageFault}
use Rattle.pm_types.specs.declared.fault.PageFault.TheVariants.{Failed, BadPage}
use Rattle.pm_btpage.specs.declared.layout.TheConstants.{LEAF_KIND, INNER_KIND}
use Rattle.pm_btpage.specs.IndexPages.{Item, items_of, IsIndexPage}
use Rattle.pm_meta.specs.declared.slots.MetaSlot.{MetaSlot}
use Rattle.pm_meta.specs.declared.slots.MetaSlot.TheVariants.{Root, Reuse, Pages}
use Rattle.pm_meta.specs.MetaPages.{field_of, next_of, IsSlot, IsStoredMeta, IsStoredReuse}
use Rattle.pm_pages.specs.Rows.{Partition, number_in, kind_of}
use Rattle.pm_pages.specs.Chains.{times}
use Rattle.pm_pages.specs.Trees.{root_of, child_of}
use Rattle.pm_pages.specs.Paged.{Paged, IsInHand, IsAfterGap}
use Rattle.pm_pages.specs.Edits.{EditsPages, HasMeta, IsNumberIn}
use Rattle.pm_pages.specs.SparePages.{MetaBecomes}
use Rattle.pm_tree.specs.Steps.{IsNoNode}
use Rattle.pm_tree.specs.Indexes.{IsIndex, link_in}
use Rattle.pm_tree_del.specs.declared.tops.Top.{Top}
use Rattle.pm_tree_del.specs.declared.tops.Top.TheVariants.{Full, Empty, Only, Other}
use Rattle.pm_tree_del.specs.Maps.{remove_in}
use Rattle.pm_tree_del.specs.Given.{GivesBack}
use Rattle.pm_tree_del.specs.Stored.{AreNearlyStored}

-- an index page of this kind, with so many items or more
pub record IsFullTop (page : List ℕ) : Type 0 where
  pub kind : (kind_of page ≡ LEAF_KIND) ⊎ (kind_of page ≡ INNER_KIND)
  pub some : 1 ≤ length (items_of page)

-- an index page of this kind without items
pub record IsBareTop (page : List ℕ) (kind : ℕ) : Type 0 where
  pub kind_is : kind_of page ≡ kind
  pub size : IsPageSize (length page)
  pub none : items_of page ≡ []

-- what a root is
abbrev pub IsTopOn : List ℕ → Top → Type 0
IsTopOn page Full = IsFullTop page
IsTopOn page Empty = IsBareTop page LEAF_KIND
IsTopOn page (Only child) = IsBareTop page INNER_KIND × (child ≡ child_of page 0) × IsIndexPage page
IsTopOn page Other = IsNoNode page

pub record IsTopIn (p : Paged) (at : ℕ) (top : Top) : Type 0 where
  pub page : List ℕ
  pub in_hand : IsInHand p at page
  pub is : IsTopOn page top

-- every number of the meta page is as it was but the reuse chain's first page and this root
pub record KeepsButRoot (old new : Paged) (cache : ℕ) : Type 0 where
  pub others : (slot : MetaSlot) → IsSlot slot → slot ≢ Reuse → slot ≢ Root cache → (n : ℕ)
      → IsNumberIn old slot n → IsNumberIn new slot n

-- At most so many pages were asked for that weren't before, and no others changed than were asked for. Where
-- each page passes its check, but for index pages without items, it does so still.
pub record RemovesRootPages (T : Type 0) (old new : Paged) (cache most : ℕ) : Type 0 where
  pub edits : EditsPages T old new (λ j. IsTrue (new.asked j)) most
  pub numbers : KeepsButRoot old new cache
  pub passes : T → AreNearlyStored old → AreNearlyStored new

-- The meta page once a root was given back: it is the first of the reuse chain, and another page is the root,
-- or none. Where it passed its check and both are below the page count, it passes it still.
pub record ReplacesNumbers (was now : List ℕ) (cache root child next : ℕ) : Type 0 where
  pub next_is : next ≡ field_of was Reuse
  pub reuse : field_of now Reuse ≡ root
  pub root_is : field_of now (Root cache) ≡ child
  pub others : (slot : MetaSlot) → IsSlot slot → slot ≢ Reuse → slot ≢ Root cache
      → field_of now slot ≡ field_of was slot
  pub size : length now ≡ length was
  pub stored : (id : PageId) (max_rows : ℕ) → IsStoredMeta id max_rows was
      → root < field_of was Pages → child < field_of was Pages → IsStoredMeta id max_rows now

-- the root was given back, and another page is the root, or none
pub record ReplacesRoot (T : Type 0) (old new : Paged) (cache root child : ℕ) : Type 0 where
  pub edits : EditsPages T old new (λ j. (j ≡ 0) ⊎ (j ≡ root)) 0
  pub page : List ℕ
  pub here : new.pages root ≡ Some page
  pub size : length page ≡ old.page_size
  pub stored : IsStoredReuse (page_id old.part root) page
  pub meta : HasMeta new
  pub numbers : MetaBecomes old new (λ was now. ReplacesNumbers was now cache root child (next_of page))

-- a root with an item stays; one without items was replaced, by its only child or, of a leaf, by none
abbrev pub Settles : Type 0 → Paged → Paged → ℕ → ℕ → Type 0
Settles T old new cache root =
    ((page : List ℕ) × (old.pages root ≡ Some page) × IsFullTop page
    × ((j : ℕ) → IsTrue (old.known j) ⊎ T → new.pages j ≡ old.pages j))
    ⊎ ((page : List ℕ) × (old.pages root ≡ Some page) × IsBareTop page LEAF_KIND
    × ReplacesRoot T old new cache root 0)
    ⊎ ((page : List ℕ) × (old.pages root ≡ Some page) × IsBareTop page INNER_KIND × (child : ℕ)
    × (child ≡ child_of page 0) × (1 ≤ child) × ((n : ℕ) → IsNumberIn old Pages n → child < n)
    × ReplacesRoot T old new cache root child)

-- A removal from the index of a cache that had these pages and items: the answer is the link that the key had,
-- and the index has the items of the removal. The pages `given` are in it no more, and stand on the reuse chain
-- now, before those that it had. Besides the pages of the index no page changed but the meta page, and of that
-- only the reuse chain's first page and this root.
pub record RemovesIndex (old new : Partition) (cache : ℕ) (nodes : List ℕ) (items : List Item)
    (key : List ℕ) (was : Option Link) : Type 0 where
  pub was_is : was ≡ link_in items key
  pub height : ℕ
  pub nodes_now : List ℕ
  pub index : IsIndex new (root_of new cache) height nodes_now (remove_in items key)
  pub given : List ℕ
  pub counted : (j : ℕ) → times j nodes ≡ times j nodes_now + times j given
  pub given_once : (j : ℕ) → times j given ≤ 1
  pub others : (j : ℕ) → j ≢ 0 → times j nodes ≡ 0 → new j ≡ old j
  pub numbers : (slot : MetaSlot) → IsSlot slot → slot ≢ Reuse → slot ≢ Root cache
      → number_in new slot ≡ number_in old slot
  pub gives : GivesBack old new given

-- a call of the disk failed, or the page before one that is given back isn't there
pub record HasGiveCause {R : Type 0} (T : Type 0) (old new : Paged) (i : ℕ)
    (result : Result R PageFault) : Type 0 where
  pub failed : IsErrOf result Failed → HasRisen old.faults new.faults
  pub bad : (id : PageId) → IsErrOf result (BadPage id) → IsAfterGap T old i id
