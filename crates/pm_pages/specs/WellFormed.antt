-- What a well-formed partition is.
use Rattle.std.specs.Prelude.{◌≡◌, ◌≢◌, ℕ, ◌<◌, nat_le, List, ◌++◌, IfSome, IsSomeAnd, length, All, AllPairs}
use Rattle.std.specs.List.{flat_map, range_with_len}
use Rattle.pm_types.specs.declared.limits.TheConstants.{CACHES}
use Rattle.pm_types.specs.declared.shape.Shape.{Shape}
use Rattle.pm_types.specs.Ids.{page_id}
use Rattle.pm_model.specs.Partitions.{part_of}
use Rattle.pm_meta.specs.declared.layout.TheConstants.{BUCKETS}
use Rattle.pm_meta.specs.declared.slots.MetaSlot.TheVariants.{Rows}
use Rattle.pm_pages.specs.declared.row.Row.{Row}
use Rattle.pm_pages.specs.Passes.{Passes, PassesAsMeta}
use Rattle.pm_pages.specs.Rows.{Partition, number_in, page_count, rows_of}
use Rattle.pm_pages.specs.Trees.{nodes_of, HasTree}
use Rattle.pm_pages.specs.Chains.{bucket_chain, reuse_chain, IsExactly, HasChain, HasReuseChain}

-- the first page, if it is there, is a meta page; each page below the page count is there and passes its check
pub record AllPass (shape : Shape) (part : ℕ) (pages : Partition) : Type 0 where
  pub meta : IfSome (pages 0) (PassesAsMeta shape.page_size shape.max_rows (page_id part 0))
  pub each : (i : ℕ) → i < page_count pages
      → IsSomeAnd (pages i) (Passes shape.page_size shape.max_rows (page_id part i))

-- two rows are of different caches or have different keys
abbrev pub AreDifferent : Row → Row → Type 0
AreDifferent a b = a.cache ≡ b.cache → a.key ≢ b.key

-- no key of a cache has two rows, each key is of this partition, and the meta page counts the rows
pub record HasKeysOnce (shape : Shape) (part : ℕ) (pages : Partition) : Type 0 where
  pub once : AllPairs AreDifferent (rows_of part pages)
  pub of_part : All (λ row. part_of row.key shape.partitions ≡ part) (rows_of part pages)
  pub counted : number_in pages Rows ≡ length (rows_of part pages)

-- the pages of all trees, then those of all chains
unfoldable pub placed_pages : Partition → List ℕ
placed_pages pages =
    flat_map (nodes_of pages) (range_with_len 0 CACHES)
    ++ (flat_map (bucket_chain pages) (range_with_len 0 BUCKETS) ++ reuse_chain pages)

-- each page but the first stands once, in a tree, in the chain of a bucket or in that of the reuse pages
abbrev pub EachOnce : Partition → Type 0
EachOnce pages = IsExactly (page_count pages) (λ i. nat_le 1 i) (placed_pages pages)

-- a well-formed partition of a store of this shape
pub record IsWellFormed (shape : Shape) (part : ℕ) (pages : Partition) : Type 0 where
  pub all_pass : AllPass shape part pages
  pub keys_once : HasKeysOnce shape part pages
  pub trees : (cache : ℕ) → cache < CACHES → HasTree pages (rows_of part pages) cache
  pub chains : (bucket : ℕ) → bucket < BUCKETS → HasChain pages bucket
  pub reuse : HasReuseChain pages
  pub each_once : EachOnce pages
