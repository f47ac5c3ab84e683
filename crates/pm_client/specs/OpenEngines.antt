-- What goes from one call of an engine to the next.
use Rattle.std.specs.Prelude.{◌≡◌, length, true}
use Rattle.pm_config.specs.declared.config.Config.{Config}
use Rattle.pm_disk.specs.Worlds.{World}
use Rattle.pm_engine.specs.Engines.{FrameRunning}
use Rattle.pm_engine.specs.FrameOpenings.{IsReadyOver}

-- An engine that is open, with as many page frames as this configuration says. Where the host tells its content, a
-- batch may be run over this disk.
pub record IsOpenOver (tells : Type 0) (config : Config) (world : World) (engine : FrameRunning) : Type 0 where
  pub is_open : engine.store.is_open ≡ true
  pub frames : config.frames ≡ length engine.store.locks.ranges
  pub ready : tells → IsReadyOver engine world
