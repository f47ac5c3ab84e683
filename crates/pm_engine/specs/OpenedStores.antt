-- A store that was restored, and is opened: its RESTART voids what the log said of pages before.
use Rattle.std.specs.Prelude.{◌≡◌, ℕ, List, [], Option, None, IsSome}
use Rattle.pm_types.specs.declared.shape.Mark.{Mark}
use Rattle.pm_types.specs.declared.shape.Shape.{Shape}
use Rattle.pm_types.specs.Shapes.{IsShape}
use Rattle.pm_disk.specs.Images.{NothingPending}
use Rattle.pm_disk.specs.Worlds.{World}
use Rattle.pm_records.specs.FirstRecords.{restart_frame}
use Rattle.pm_segments.specs.Appends.{grown}
use Rattle.pm_segments.specs.Ends.{LogEnd, LogIsOpen}
use Rattle.pm_core.specs.BasePages.{Partitions, counted}
use Rattle.pm_core.specs.Stands.{Stands}
use Rattle.pm_core.specs.States.{State}
use Rattle.pm_ckpt.specs.Checkpoints.{written_so}
use Rattle.pm_engine.specs.RunningStores.{StoreState, ended_with}

-- a partition that has a page has its first one
abbrev pub BeginWithFirst : Partitions → Type 0
BeginWithFirst pages = (part index : ℕ) → IsSome (pages part index) → IsSome (pages part 0)

-- The disk is as the state says, after a restart's steps: no checkpoint runs, nothing is pending, and the log
-- ends there and can go on.
pub record IsRestoredStore (wanted : Shape) (told : List ℕ → ℕ) (shape : Shape) (log : LogEnd)
    (mark : Option Mark) (s : State) (world : World) : Type 0 where
  pub stands : Stands wanted told s world
  pub shaped : s.shape ≡ shape
  pub is_shape : IsShape shape
  pub checkpoint : s.now.checkpoint ≡ ended_with mark
  pub alone : s.soon ≡ None
  pub ends : s.end ≡ log.end
  pub is_open : LogIsOpen log (written_so s)
  pub nothing_pending : s.pending ≡ []
  pub quiet : NothingPending world
  -- the pages of the partitions' files are those of files, in which the first page stands before each other one
  pub first_pages : BeginWithFirst s.files

-- the store once its RESTART is appended: its pages are those of the files that count, and none is logged
abbrev pub opened_store : Shape → LogEnd → Option Mark → State → StoreState
opened_store shape log mark s = record {
  shape = shape;
  pages = λ part. counted (s.files part);
  logged = [];
  log = grown log (restart_frame shape);
  mark = mark;
}
