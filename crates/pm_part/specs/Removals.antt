-- What a removal does to the rows of a partition.
use Rattle.std.specs.Prelude.{◌≡◌, ℕ, ◌-◌, List, Bool}
use Rattle.std.specs.FinMap as map
use Rattle.pm_btpage.specs.IndexPages.{Item}
use Rattle.pm_meta.specs.declared.slots.MetaSlot.TheVariants.{Rows}
use Rattle.pm_model.specs.Eval.{cache_key}
use Rattle.pm_pages.specs.Rows.{Partition, number_in, rows_of}
use Rattle.pm_pages.specs.RowMaps.{map_of}
use Rattle.pm_pages.specs.Trees.{root_of}
use Rattle.pm_tree.specs.Indexes.{IsIndex}
use Rattle.pm_tree_del.specs.Maps.{remove_in}

-- the index of a cache has the items without that of a key
pub record LosesItem (old new : Partition) (cache : ℕ) (key : List ℕ) (items : List Item) : Type 0 where
  pub height : ℕ
  pub nodes : List ℕ
  pub index : IsIndex new (root_of new cache) height nodes (remove_in items key)

-- the row of a key is gone, and no other; so is its item from the index of its cache, and the meta page
-- counts one row less
pub record DropsKey (part : ℕ) (old new : Partition) (cache : ℕ) (key : List ℕ) : Type 0 where
  pub rows : map_of (rows_of part new) ≡ map.remove (map_of (rows_of part old)) (cache_key cache key)
  pub items : (height : ℕ) (nodes : List ℕ) (items : List Item)
      → IsIndex old (root_of old cache) height nodes items → LosesItem old new cache key items
  pub counted : number_in new Rows ≡ number_in old Rows - 1

-- the answer is whether the key was there; its row is gone, and no other
pub record RemovesKey (part : ℕ) (old new : Partition) (cache : ℕ) (key : List ℕ) (was : Bool) : Type 0 where
  pub was_is : was ≡ map.contains_key (map_of (rows_of part old)) (cache_key cache key)
  pub rows : map_of (rows_of part new) ≡ map.remove (map_of (rows_of part old)) (cache_key cache key)
