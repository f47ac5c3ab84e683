-- An engine over page frames between two batches.
use Rattle.std.specs.Prelude.{◌≡◌, ℕ, [], true, length}
use Rattle.pm_types.specs.declared.shape.Shape.{Shape}
use Rattle.pm_config.specs.declared.config.Config.{Config}
use Rattle.pm_disk.specs.Worlds.{World}
use Rattle.pm_engine.specs.Engines.{FrameRunning, HasDoneLines, map_in}
use Rattle.pm_engine.specs.RunningLines.{says_nothing}

-- in some state of the disk machine its store runs, and has done no line since it had this map
pub record FrameAtRest (wanted : Shape) (engine : FrameRunning) (world : World) : Type 0 where
  pub from : ℕ
  pub has : HasDoneLines wanted says_nothing from (map_in engine world) [] engine world

-- it is open, with as many frames as the configuration says: it may run a batch
pub record IsServing (config : Config) (engine : FrameRunning) : Type 0 where
  pub is_open : engine.store.is_open ≡ true
  pub frames : config.frames ≡ length engine.store.locks.ranges
