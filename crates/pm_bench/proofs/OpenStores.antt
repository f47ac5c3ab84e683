-- An engine that is open still, over another disk, has as many page frames as before.
use Rattle.std.proofs.Common.{◌≡◌, ◌∙◌, length, sym, true}
use Rattle.pm_config.specs.declared.config.Config.{Config}
use Rattle.pm_disk.specs.Worlds.{World}
use Rattle.pm_engine.specs.Engines.{FrameRunning, IsSameEngine}
use Rattle.pm_engine.specs.FrameOpenings.{IsReadyOver}
use Rattle.pm_bench.specs.OpenEngines.{IsOpenOver}

pub stays_open : (tells : Type 0) (config : Config) (old new : World) (before now : FrameRunning) → IsOpenOver tells config old before → IsSameEngine before now → now.store.is_open ≡ true → (tells → IsReadyOver now new) → IsOpenOver tells config new now
stays_open tells config old new before now was same is_open ready = record {
  is_open = is_open;
  frames = was.frames ∙ sym (λ i. length ((same.locks i).ranges));
  ready = ready;
}
