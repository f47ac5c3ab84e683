-- A store over pages: its map is that of the rows of its partitions.
use Rattle.std.specs.Prelude.{◌≡◌, ◌≢◌, ℕ, ◌<◌}
use Rattle.pm_types.specs.declared.shape.Shape.{Shape}
use Rattle.pm_model.specs.declared.line.Line.{Line}
use Rattle.pm_model.specs.Eval.{Pairs, after}
use Rattle.pm_pages.specs.Rows.{rows_of}
use Rattle.pm_pages.specs.RowMaps.{map_of}
use Rattle.pm_core.specs.BasePages.{Partitions, counted}
use Rattle.pm_core.specs.Held.{AllWellFormed}

-- the map of a partition's rows
abbrev pub part_map : Partitions → ℕ → Pairs
part_map pages part = map_of (rows_of part (counted (pages part)))

-- A line of a partition's key was run on it. Its map is what the line leaves of it, every other
-- partition's is as it was, and each partition is well formed.
pub record RunsOnPart (shape : Shape) (part : ℕ) (line : Line) (old new : Partitions) : Type 0 where
  pub here : part_map new part ≡ after shape line (part_map old part)
  pub elsewhere : (other : ℕ) → other < shape.partitions → other ≢ part
      → part_map new other ≡ part_map old other
  pub well_formed : AllWellFormed shape new
