-- A removal from an index of any height, call by call.
use Rattle.std.proofs.Common.{◌≢◌, ℕ, zero, suc, ◌<◌, ◌≤◌, List, arith}
use Rattle.std.specs.Prelude.{None, Some}
use Rattle.pm_types.specs.PageSizes.{IsPageSize}
use Rattle.pm_types.specs.declared.limits.TheConstants.{CACHES}
use Rattle.pm_btpage.specs.IndexPages.{Item}
use Rattle.pm_meta.specs.declared.slots.MetaSlot.TheVariants.{Root}
use Rattle.pm_pages.specs.Paged.{Paged, AllReadable}
use Rattle.pm_pages.specs.Edits.{HasMeta, IsNumberIn}
use Rattle.pm_tree.specs.Indexes.{IsIndex, as_link}
use Rattle.pm_tree.specs.Puts.{half_of}
use Rattle.pm_tree.proofs.LeafChanges.{capacity_bounds}
use Rattle.pm_tree_del.specs.declared.remove.Removal.TheVariants.{Absent, Kept, Small}
use Rattle.pm_tree_del.specs.Removes.{RemovesFor}
use Rattle.pm_tree_del.specs.Causes.{RemovesPages}
use Rattle.pm_tree_del.specs.Roots.{RemovesRootPages, Settles, RemovesIndex}
use Rattle.pm_tree_del.proofs.RemovedIndexes.{absent_index, keeps_index, settles_index}

half_some : (size : ℕ) → IsPageSize size → 1 ≤ half_of size
half_some size is = omega (arith, capacity_bounds size is)

module _ (T : Type 0) (a b c : Paged) (cache root : ℕ) (key : List ℕ) (t : T) (meta : HasMeta a) (in_caches : cache < CACHES) (is_root : IsNumberIn a (Root cache) root) (some : root ≢ 0) (m : ℕ) (changes : RemovesPages T a b m) (readable : AllReadable b) (size : IsPageSize a.page_size) where
  pub absent_height : RemovesFor a.pages b.pages (half_of a.page_size) 8 root key Absent → (height : ℕ) (nodes : List ℕ) (items : List Item) → IsIndex a.pages root height nodes items → RemovesIndex a.pages b.pages cache nodes items key None
  absent_height removes zero nodes items index = absurd (some index.0)
  absent_height removes (suc levels) nodes items index = absent_index T a b b cache root key t meta in_caches is_root some m changes readable levels nodes items index removes (half_some a.page_size size)

  pub kept_height : (was : ℕ) → RemovesFor a.pages b.pages (half_of a.page_size) 8 root key (Kept was) → (height : ℕ) (nodes : List ℕ) (items : List Item) → IsIndex a.pages root height nodes items → RemovesIndex a.pages b.pages cache nodes items key (Some (as_link was))
  kept_height was removes zero nodes items index = absurd (some index.0)
  kept_height was removes (suc levels) nodes items index = keeps_index T a b b cache root key t meta in_caches is_root some m changes readable levels nodes items index was removes (half_some a.page_size size)

  pub settled_height : (was : ℕ) → RemovesFor a.pages b.pages (half_of a.page_size) 8 root key (Small was) → RemovesRootPages T b c cache 0 → Settles T b c cache root → (height : ℕ) (nodes : List ℕ) (items : List Item) → IsIndex a.pages root height nodes items → RemovesIndex a.pages c.pages cache nodes items key (Some (as_link was))
  settled_height was removes root_changes settles zero nodes items index = absurd (some index.0)
  settled_height was removes root_changes settles (suc levels) nodes items index = settles_index T a b c cache root key t meta in_caches is_root some m changes readable levels nodes items index was removes (half_some a.page_size size) root_changes settles
