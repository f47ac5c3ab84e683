-- New roots, and puts into the index of a cache.
use Rattle.std.specs.Prelude.{◌≡◌, ◌≢◌, ℕ, ◌+◌, ◌<◌, ◌≤◌, ◌⊎◌, List, [], ◌∷◌, Option, Some, IsTrue}
use Rattle.std.specs.Prelude.{Result, IsErrOf}
use Rattle.pm_types.specs.declared.page_id.PageId.{PageId}
use Rattle.pm_types.specs.declared.page_id.Link.{Link}
use Rattle.pm_types.specs.declared.fault.PageFault.{PageFault}
use Rattle.pm_types.specs.declared.fault.PageFault.TheVariants.{Failed, BadPage}
use Rattle.pm_types.specs.Counts.{HasRisen}
use Rattle.pm_types.specs.Ids.{page_id}
use Rattle.pm_btpage.specs.IndexPages.{Item, with_items}
use Rattle.pm_meta.specs.declared.slots.MetaSlot.{MetaSlot}
use Rattle.pm_meta.specs.declared.slots.MetaSlot.TheVariants.{Root, Reuse, Pages}
use Rattle.pm_meta.specs.MetaPages.{IsSlot}
use Rattle.pm_pages.specs.declared.limits.TheConstants.{LEVELS_MAX}
use Rattle.pm_pages.specs.Rows.{Partition, number_in, page_count}
use Rattle.pm_pages.specs.Chains.{times}
use Rattle.pm_pages.specs.Trees.{index_in, root_of}
use Rattle.pm_pages.specs.SparePages.{NamesNoSpare, HasBadReuse, HasGapBelow}
use Rattle.pm_tree.specs.declared.put.Part.{Part}
use Rattle.pm_pages.specs.Paged.{Paged}
use Rattle.pm_pages.specs.Edits.{EditsPages, HasMeta, IsNumberIn}
use Rattle.pm_tree.specs.Maps.{put_in}
use Rattle.pm_tree.specs.Nodes.{nodes_in}
use Rattle.pm_tree.specs.Indexes.{IsIndex, link_in}
use Rattle.pm_tree.specs.Puts.{IsSpare}
use Rattle.pm_pages.specs.SpareChains.{MovesSpare}
use Rattle.pm_pages.specs.SoundPages.{CanTake}
use Rattle.pm_pages.specs.StoredPages.{KeepsStored, KeepsMeta}
use Rattle.pm_tree.specs.Edits.{blank, IsNode}
use Rattle.pm_tree.specs.PutCauses.{IsPutFaultAfter}

-- the page count didn't fall, and each number is as it was but that, the reuse chain's first page and this root
pub record KeepsButRoot (old new : Paged) (cache : ℕ) : Type 0 where
  pub count : (n : ℕ) → IsNumberIn old Pages n → (m : ℕ) × IsNumberIn new Pages m × (n ≤ m)
  pub others : (slot : MetaSlot) → IsSlot slot → slot ≢ Reuse → slot ≢ Pages → slot ≢ Root cache → (n : ℕ)
      → IsNumberIn old slot n → IsNumberIn new slot n

-- a new page is the root of a cache: a leaf, or an inner page with this first child, with one item
pub record MakesRoot (T : Type 0) (old new : Paged) (cache : ℕ) (first : Option PageId) (key : List ℕ)
    (word : ℕ) : Type 0 where
  pub top : ℕ
  pub some : 1 ≤ top
  pub below : (n : ℕ) → IsNumberIn new Pages n → top < n
  pub edits : EditsPages T old new (λ j. (j ≡ 0) ⊎ (j ≡ top)) 1
  pub node : IsNode new top
      (with_items (blank (page_id old.part top) first) (record { key = key; word = word } ∷ []))
  pub root : IsNumberIn new (Root cache) top
  pub meta : HasMeta new
  pub numbers : KeepsButRoot old new cache
  pub spare : T → IsSpare (nodes_in old.pages top)
  pub added : T → (j : ℕ) → j < page_count new.pages → (j < page_count old.pages) ⊎ (j ≡ top)
  pub moves : T → MovesSpare old.pages new.pages (top ∷ []) []
  pub meta_passes : T → KeepsMeta old new

-- A put into the index of a cache that had these pages and items: it has the items of the put. The pages `made`
-- are new in it, of no tree before, and were taken from the reuse chain or follow the last page. Besides the
-- pages of the index and the new ones no page changed but the meta page, and of that no other root, no bucket
-- and not the row count.
pub record PutsIndex (old new : Partition) (cache : ℕ) (nodes : List ℕ) (items : List Item) (key : List ℕ)
    (word : ℕ) (was : Option Link) : Type 0 where
  pub was_is : was ≡ link_in items key
  pub height : ℕ
  pub nodes_now : List ℕ
  pub index : IsIndex new (root_of new cache) height nodes_now (put_in items key word)
  pub made : List ℕ
  pub counted : (j : ℕ) → times j nodes_now ≡ times j nodes + times j made
  pub made_once : (j : ℕ) → times j made ≤ 1
  pub spare : (j : ℕ) → 1 ≤ times j made → IsSpare (nodes_in old j)
  pub others : (j : ℕ) → j ≢ 0 → times j nodes ≡ 0 → times j made ≡ 0 → new j ≡ old j
  pub numbers : (slot : MetaSlot) → IsSlot slot → slot ≢ Reuse → slot ≢ Pages → slot ≢ Root cache
      → number_in new slot ≡ number_in old slot
  pub moves : MovesSpare old new made []

-- What a put changed: at most so many pages were asked for that weren't before, and no others
-- changed than were asked for. Where this was given pages that pass their checks do so still.
pub record PutsRootPages (T : Type 0) (old new : Paged) (cache most : ℕ) (given : Type 0) : Type 0 where
  pub edits : EditsPages T old new (λ j. IsTrue (new.asked j)) most
  pub meta : HasMeta new
  pub numbers : KeepsButRoot old new cache
  pub takes : T → (limit left : ℕ) → CanTake limit old (most + left) → CanTake limit new left
  pub passes : T → given → KeepsStored old new most

-- the tree has as many levels as it may have; the root has this name
pub record IsTooTall (T : Type 0) (p : Paged) (cache : ℕ) (id : PageId) : Type 0 where
  pub root : ℕ
  pub name : id ≡ page_id p.part root
  pub is_root : IsNumberIn p (Root cache) root
  pub tall : T → (height : ℕ) (nodes : List ℕ) (items : List Item)
      → IsIndex p.pages root height nodes items → height ≡ LEVELS_MAX

-- a call of the disk failed, there was a fault, or the tree would have one more level than it may have
pub record HasTreePutCause {R : Type 0} (T : Type 0) (old new : Paged) (cache : ℕ)
    (result : Result R PageFault) : Type 0 where
  pub failed : IsErrOf result Failed → HasRisen old.faults new.faults
  pub bad : (id : PageId) → IsErrOf result (BadPage id)
      → IsPutFaultAfter T old new cache id ⊎ IsTooTall T old cache id

-- a new root is above one that was divided: that is its child with the lower keys, the new page the
-- one with the upper keys
pub record MakesTop (T : Type 0) (old new : Paged) (cache root : ℕ) (part : Part) : Type 0 where
  pub lower : PageId
  pub upper : PageId
  pub lower_name : lower ≡ page_id old.part root
  pub lower_is : index_in lower.0 ≡ root
  pub upper_name : upper ≡ page_id old.part part.right
  pub upper_is : index_in upper.0 ≡ part.right
  pub makes : MakesRoot T old new cache (Some lower) part.from upper.0

-- a call of the disk failed, the tree has as many levels as it may have, or no page can be taken
pub record HasGrowCause {R : Type 0} (T : Type 0) (old new : Paged) (root levels : ℕ)
    (result : Result R PageFault) : Type 0 where
  pub failed : IsErrOf result Failed → HasRisen old.faults new.faults
  pub bad : (id : PageId) → IsErrOf result (BadPage id)
      → ((id ≡ page_id old.part root) × (LEVELS_MAX ≤ levels + 1))
      ⊎ NamesNoSpare new id ⊎ HasBadReuse T old id ⊎ HasGapBelow T old id
