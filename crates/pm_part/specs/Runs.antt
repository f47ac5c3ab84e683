-- What a command does to a partition: the reply and the map are those of the evaluation of lines.
use Rattle.std.specs.Prelude.{◌≡◌, ℕ, ◌^◌, ◌<◌, ◌≤◌, [], ◌∷◌, Result, OnOk}
use Rattle.pm_types.specs.declared.fault.PageFault.{PageFault}
use Rattle.pm_types.specs.declared.limits.TheConstants.{OP_PAGES, ROWS_MAX}
use Rattle.pm_types.specs.declared.shape.Shape.{Shape}
use Rattle.pm_model.specs.declared.line.Cmd.{Cmd}
use Rattle.pm_model.specs.declared.line.Cmd.TheVariants.{Put, Get, Remove, Scan, Checkpoint}
use Rattle.pm_model.specs.declared.line.Line.TheVariants.{Good}
use Rattle.pm_model.specs.Eval.{reply_to, after}
use Rattle.pm_model.specs.ReplyLists.{ReplyList, with_replies}
use Rattle.pm_pages.specs.Rows.{Partition, rows_of}
use Rattle.pm_pages.specs.RowMaps.{map_of}
use Rattle.pm_pages.specs.Paged.{Paged}
use Rattle.pm_pages.specs.Edits.{LooksAtPages}
use Rattle.pm_pages.specs.WellFormed.{IsWellFormed}
use Rattle.pm_part.specs.Commands.{IsRefused}

-- the pages are those of a well-formed partition of a store of this shape, of a number and with as many
-- rows as a store may have
pub record IsPartitionOf (shape : Shape) (p : Paged) : Type 0 where
  pub page_size : shape.page_size ≡ p.page_size
  pub max_rows : shape.max_rows ≡ p.max_rows
  pub rows : p.max_rows ≤ ROWS_MAX
  pub part : p.part < 2 ^ 16
  pub well_formed : IsWellFormed shape p.part p.pages

-- the evaluation's reply was appended, and the rows make the evaluation's map
pub record RunsCmd (shape : Shape) (part : ℕ) (cmd : Cmd) (old new : Partition)
    (was now : ReplyList) : Type 0 where
  pub replied : now ≡ with_replies (reply_to shape (Good cmd) (map_of (rows_of part old)) ∷ []) was
  pub map : map_of (rows_of part new) ≡ after shape (Good cmd) (map_of (rows_of part old))

-- the command is a get
abbrev pub IsGet : Cmd → Type 0
IsGet (Put cache key value) = ⊥
IsGet (Get cache key) = Unit {0}
IsGet (Remove cache key) = ⊥
IsGet (Scan cache) = ⊥
IsGet Checkpoint = ⊥

-- What leaves pages as they are: a get, which asks for at most ten of them, and a command whose reply says that
-- it wasn't accepted.
pub record KeepsPages {R : Type 0} (T : Type 0) (cmd : Cmd) (old new : Paged) (was now : ReplyList)
    (result : Result R PageFault) : Type 0 where
  pub gets : IsGet cmd → LooksAtPages T old new 10
  pub refused : OnOk result (IsRefused cmd was now → LooksAtPages T old new OP_PAGES)
