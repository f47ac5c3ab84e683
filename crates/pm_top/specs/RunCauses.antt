-- When a run ends with which status, as every host reports it.
use Rattle.std.specs.Prelude.{◌≡◌, ◌≢◌, IsErrOf, Result}
use Rattle.pm_disk.specs.States.{DeviceState, IsLaterState, Rose}
use Rattle.pm_top.specs.declared.configuration.ConfigError.{ConfigError}
use Rattle.pm_top.specs.declared.configuration.ConfigError.TheVariants as unread
use Rattle.pm_top.specs.declared.status.Status.{Status}
use Rattle.pm_top.specs.declared.status.Status.TheVariants.{Usage, Misconfigured, Failed}

-- a configuration is read: `Failed` comes only after a failed call
pub record HasConfigCause {T : Type 0} (before now : DeviceState) (result : Result T ConfigError) : Type 0 where
  pub failed : IsErrOf result unread.Failed → Rose before now
  pub state : IsLaterState before now

-- the same of the status of a run over the folder that is bound
pub record HasRunCause (status : Status) (before now : DeviceState) : Type 0 where
  pub known : status ≢ Usage
  pub failed : status ≡ Failed → Rose before now
  pub state : IsLaterState before now

-- the same of a script over a store that is open
pub record HasScriptCause (status : Status) (before now : DeviceState) : Type 0 where
  pub run : HasRunCause status before now
  pub configured : status ≢ Misconfigured
