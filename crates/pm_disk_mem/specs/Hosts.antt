-- What contracts observe of a host in memory.
use Rattle.std.specs.Prelude.{◌≡◌, ℕ, true, List, Option, option_map, Result}
use Rattle.std.specs.String.{string_bytes}
use Rattle.pm_disk.specs.Worlds.{World}
use Rattle.pm_disk.specs.Moments.{History}
use Rattle.pm_disk.specs.States.{DeviceState}
use Rattle.pm_disk_mem.specs.Presences.{made_by}
use Rattle.pm_disk_mem.specs.Plans.{HasPlan, IsCallCounted, IsCallPlanned, IsStepCounted}
use Rattle.pm_disk_mem.specs.Steps.{start_world}
use Rattle.pm_disk_mem.specs.Events.{after_events, history_during}
use Rattle.pm_disk_mem.specs.declared.event.Event.{Event}
use Rattle.pm_disk_mem.specs.declared.host.MemHost.{MemHost}

-- the world as the host began
abbrev pub first_world : MemHost → World
first_world host = start_world host.began.value host.config.items host.console.script.items

-- what the host has done
abbrev pub events_of : MemHost → List Event
events_of host = host.events.items

-- the world now
abbrev pub world_of : MemHost → World
world_of host = after_events (events_of host) (first_world host)

-- the world now and at each moment before
abbrev pub history_of : MemHost → History
history_of host = history_during (first_world host) (events_of host)

-- how many calls were made that can fail
abbrev pub calls_of : MemHost → ℕ
calls_of host = host.failures.calls

-- how many of them failed
abbrev pub faults_of : MemHost → ℕ
faults_of host = host.failures.count

-- the bytes of the name of the folder that is bound
abbrev pub folder_of : MemHost → Option (List ℕ)
folder_of host = option_map string_bytes host.folder

-- what the host reports about itself: each page may be read and written
abbrev pub state_of : MemHost → DeviceState
state_of host = record {
  faults = faults_of host;
  access = record {
    folder = folder_of host;
    is_lent = host.is_lent;
    reads = λ _. true;
    writes = λ _. true;
    made = made_by host.presence;
  };
}

-- these calls are to fail, and each one from the stop on
abbrev pub IsPlanned : MemHost → List ℕ → Option ℕ → Type 0
IsPlanned host failing stop = HasPlan host.failures failing stop

-- The call was counted, failed where it was to fail, and raised the count of faults exactly where
-- it failed; which calls are to fail is as it was.
abbrev pub IsCounted : {T E : Type 0} → MemHost → MemHost → Result T E → Type 0
IsCounted old new result = IsCallCounted old.failures new.failures result

-- A call that takes no memory was counted, and failed exactly when it was to fail.
abbrev pub FailsAsPlanned : {T E : Type 0} → MemHost → MemHost → Result T E → Type 0
FailsAsPlanned old new result = IsCallPlanned old.failures new.failures result

-- A step of a call was counted, and left the folder, whether it is there, and whether the parts are lent.
pub record KeepsAccess {T E : Type 0} (old new : MemHost) (result : Result T E) : Type 0 where
  pub counted : IsStepCounted old.failures new.failures result
  pub folder : new.folder ≡ old.folder
  pub presence : new.presence ≡ old.presence
  pub is_lent : new.is_lent ≡ old.is_lent
