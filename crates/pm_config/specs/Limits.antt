-- The limits of a configuration.
use Rattle.std.specs.Prelude.{◌≤◌, ◌*◌}
use Rattle.pm_types.specs.Shapes.{IsShape}
use Rattle.pm_config.specs.declared.config.Config.{Config}
use Rattle.pm_config.specs.declared.limits.TheConstants.{WORKERS_MAX, FRAMES_PER_WORKER, FRAMES_MAX}
use Rattle.pm_config.specs.declared.limits.TheConstants.{BUFFER_PAGES_PER_WORKER, BUFFER_PAGES_MAX}
use Rattle.pm_config.specs.declared.limits.TheConstants.{CHECKPOINT_BYTES_MIN, CHECKPOINT_BYTES_MAX}
use Rattle.pm_config.specs.declared.limits.TheConstants.{DIRTY_PERCENT_MAX}

-- each number of the configuration is within its limits
pub record IsConfig (config : Config) : Type 0 where
  pub shape : IsShape config.shape
  pub workers_from : 1 ≤ config.workers
  pub workers_to : config.workers ≤ WORKERS_MAX
  pub frames_from : FRAMES_PER_WORKER * config.workers ≤ config.frames
  pub frames_to : config.frames ≤ FRAMES_MAX
  pub buffer_pages_from : BUFFER_PAGES_PER_WORKER * config.workers ≤ config.buffer_pages
  pub buffer_pages_to : config.buffer_pages ≤ BUFFER_PAGES_MAX
  pub checkpoint_bytes_from : CHECKPOINT_BYTES_MIN ≤ config.checkpoint_bytes
  pub checkpoint_bytes_to : config.checkpoint_bytes ≤ CHECKPOINT_BYTES_MAX
  pub dirty_percent_from : 1 ≤ config.dirty_percent
  pub dirty_percent_to : config.dirty_percent ≤ DIRTY_PERCENT_MAX
