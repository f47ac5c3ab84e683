-- What a checkpoint leaves of an engine over page frames.
use Rattle.std.specs.Prelude.{◌≡◌, false, None, Result, OnOk, OnErr}
use Rattle.pm_disk.specs.Worlds.{World}
use Rattle.pm_ckpt.specs.Dirty.{IsNext}
use Rattle.pm_ckpt.specs.Marked.{mark_for}
use Rattle.pm_engine.specs.FrameCheckpoints.{IsCheckpointed}
use Rattle.pm_engine.specs.Engines.{FrameRunning, IsSameEngine}
use Rattle.pm_engine.specs.FrameOpenings.{IsReadyOver}

-- Its log and its mark are those after the next checkpoint, and no byte of its log is counted.
pub record IsAfterCheckpoint (before now : FrameRunning) : Type 0 where
  pub next : IsNext (mark_for before.ckpt before.log None) before.ckpt now.ckpt before.log now.log
  pub began : now.began ≡ record { found = 0; total = now.log.total }

-- It is the same engine with the same order. Once the checkpoint was made it is the engine after it, and where the call
-- failed it is open no more.
pub record IsCheckpointedOrClosed {T E : Type 0} (before now : FrameRunning) (result : Result T E) : Type 0 where
  pub same : IsSameEngine before now
  pub order : now.order ≡ before.order
  pub done : OnOk result (IsAfterCheckpoint before now)
  pub closed : OnErr result (now.store.is_open ≡ false)

-- Over the disk its pages are in their partitions' files, none of them stays in its frame, and the next round may begin.
pub record HasPagesInFiles (tells : Type 0) (before now : FrameRunning) (old new : World) : Type 0 where
  pub pages : IsCheckpointed tells old new before.store now.store
  pub ready : tells → IsReadyOver now new
