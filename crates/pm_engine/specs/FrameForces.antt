-- What a force of its log leaves of an engine over page frames.
use Rattle.std.specs.Prelude.{◌≡◌, Result, OnOk, OnErr}
use Rattle.pm_disk.specs.Worlds.{World}
use Rattle.pm_segments.specs.Ends.{EndsThere}
use Rattle.pm_engine.specs.Engines.{FrameRunning, closed_engine}
use Rattle.pm_engine.specs.FrameStores.{pages_in_frames, HasCleanPages}

-- The engine is as it was. Where the call failed it is open no more, and nothing else of it changed.
pub record IsSameOrClosed {T E : Type 0} (before now : FrameRunning) (result : Result T E) : Type 0 where
  pub same : OnOk result (now ≡ before)
  pub closed : OnErr result (now ≡ closed_engine before)

-- Over the disk the engine reads as it did: its log ends where its file does, it has the same pages, and where what is
-- Clean was as the partitions' files had it, it is so still.
pub record ReadsAsBefore (before now : FrameRunning) (old new : World) : Type 0 where
  pub ends : EndsThere now.log new
  pub pages : pages_in_frames now.store new ≡ pages_in_frames before.store old
  pub clean : HasCleanPages before.store old → HasCleanPages now.store new
