-- What a put does to the rows of a partition.
use Rattle.std.specs.Prelude.{◌≡◌, ◌≢◌, ℕ, ◌<◌, ◌≤◌, List, Bool, None, not}
use Rattle.std.specs.FinMap as map
use Rattle.pm_types.specs.declared.page_id.Link.{Link}
use Rattle.pm_types.specs.declared.shape.Shape.{Shape}
use Rattle.pm_types.specs.Ids.{page_id, link}
use Rattle.pm_data.specs.declared.layout.TheConstants.{DATA_KIND}
use Rattle.pm_meta.specs.declared.slots.MetaSlot.TheVariants.{Rows}
use Rattle.pm_model.specs.declared.line.Cmd.TheVariants.{Put}
use Rattle.pm_model.specs.declared.line.Line.TheVariants.{Good}
use Rattle.pm_model.specs.Eval.{cache_key, is_full, after}
use Rattle.pm_model.specs.Partitions.{part_of}
use Rattle.pm_pages.specs.declared.row.Row.{Row}
use Rattle.pm_pages.specs.Rows.{Partition, page_at, page_count, number_in, kind_of, rows_of, row_of}
use Rattle.pm_pages.specs.RowMaps.{map_of}
use Rattle.pm_pages.specs.Paged.{Paged}
use Rattle.pm_pages.specs.SpareChains.{HasSpare}
use Rattle.pm_pages.specs.Trees.{root_of}
use Rattle.pm_btpage.specs.IndexPages.{Item}
use Rattle.pm_tree.specs.Maps.{get_in}
use Rattle.pm_tree.specs.Indexes.{IsIndex}
use Rattle.pm_free.specs.Placed.{HasOneMore, HasChains, KeepsRoots, IsUnused}
use Rattle.pm_part.specs.declared.spots.Spot.{Spot}
use Rattle.pm_part.specs.Runs.{IsPartitionOf}
use Rattle.pm_part.specs.LaidOut.{IsLaidOut}

-- A row, which has this link now, is in the place of the one at a spot; the others are as they were. The
-- chains of the buckets and the reuse chain are right where they were, and a partition that was laid out is
-- so still. But for data pages and pages that can be taken only the meta page changed, and of that no root
-- and not the row count.
pub record OverwritesRow (part : ℕ) (old new : Partition) (spot : Spot) (row : List ℕ)
    (at_link : Link) : Type 0 where
  pub was : Row
  pub others : List Row
  pub named : was.link ≡ link (page_id part spot.at) spot.item
  pub before : HasOneMore others (rows_of part old) was
  pub now : HasOneMore others (rows_of part new) (row_of at_link row)
  pub chains : HasChains old → HasChains new
  pub laid : (items : ℕ → List Item) → IsLaidOut old items → IsLaidOut new items
  pub spare : HasSpare old → HasSpare new
  pub count : page_count old ≤ page_count new
  pub stays : (j : ℕ) → j ≢ 0 → kind_of (page_at old j) ≢ DATA_KIND → (IsUnused old j → ⊥) → new j ≡ old j
  pub numbers : KeepsRoots old new

-- a key that has a row has this value now, and no other row changed
pub record ReplacesKey (part : ℕ) (old new : Partition) (cache : ℕ) (key value : List ℕ) : Type 0 where
  pub rows : map_of (rows_of part new) ≡ map.insert (map_of (rows_of part old)) (cache_key cache key) value

-- a row more is there, and the meta page counts so many
pub record AddsKey (part : ℕ) (old new : Partition) (row : List ℕ) (count : ℕ) : Type 0 where
  pub at_link : Link
  pub added : HasOneMore (rows_of part old) (rows_of part new) (row_of at_link row)
  pub counted : number_in new Rows ≡ count

-- a well-formed partition of a store of this shape, with so many rows at most, to which the key belongs
pub record IsPartFor (shape : Shape) (p : Paged) (max_rows : ℕ) (key : List ℕ) : Type 0 where
  pub partition : IsPartitionOf shape p
  pub most : shape.max_rows ≡ max_rows
  pub some : 1 ≤ max_rows
  pub mine : part_of key shape.partitions ≡ p.part

-- the answer is whether the partition wasn't full for the key, and the rows make the evaluation's map
pub record PutsKey (shape : Shape) (part : ℕ) (old new : Partition) (cache : ℕ) (key value : List ℕ)
    (done : Bool) : Type 0 where
  pub done_is : done ≡ not (is_full shape (cache_key cache key) (map_of (rows_of part old)))
  pub rows : map_of (rows_of part new) ≡ after shape (Good (Put cache key value)) (map_of (rows_of part old))

-- the index of a cache has no item of a key
pub record LacksItem (pages : Partition) (cache : ℕ) (key : List ℕ) : Type 0 where
  pub none : (height : ℕ) (nodes : List ℕ) (items : List Item)
      → IsIndex pages (root_of pages cache) height nodes items → get_in items key ≡ None

-- a well-formed partition of a store of this shape, which has so many rows, fewer than it may have; the key
-- belongs to it and has no row
pub record MayAddRow (shape : Shape) (p : Paged) (rows cache : ℕ) (key : List ℕ) : Type 0 where
  pub partition : IsPartitionOf shape p
  pub counted : number_in p.pages Rows ≡ rows
  pub few : rows < p.max_rows
  pub mine : part_of key shape.partitions ≡ p.part
  pub lacks : LacksItem p.pages cache key
