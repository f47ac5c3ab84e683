-- Which calls fail, and how failures are counted.
use Rattle.std.specs.Prelude.{◌≡◌, ◌<◌, ◌≤◌, ◌+◌, ◌-◌, ◌^◌, ℕ, min, max, List, Option, Some, None, Bool}
use Rattle.std.specs.Prelude.{true, false, ◌||◌, nat_le, ◌==◌, Result, OnOk, OnErr, IsErr, is_err}
use Rattle.std.specs.List.{list_any}
use Rattle.pm_disk_mem.specs.declared.failures.Failures.{Failures}

-- the call of this number comes at the stop or after it
abbrev pub is_stopped : Option ℕ → ℕ → Bool
is_stopped None number = false
is_stopped (Some stop) number = nat_le stop number

-- the next call is to fail
abbrev pub is_due : Failures → Bool
is_due failures = list_any
    (λ number. number == failures.calls) failures.failing.items || is_stopped failures.stop failures.calls

-- These calls are to fail, and each one from the stop on.
pub record HasPlan (failures : Failures) (failing : List ℕ) (stop : Option ℕ) : Type 0 where
  pub fails : failures.failing.items ≡ failing
  pub stops : failures.stop ≡ stop

-- The same calls are to fail.
pub record KeepsPlan (old new : Failures) : Type 0 where
  pub failing : new.failing.items ≡ old.failing.items
  pub stop : new.stop ≡ old.stop

-- The count of faults is as it was after a success, and rose by one at a failure. It stands still at 2^64 - 1.
pub record IsFaultCount {T E : Type 0} (old new : ℕ) (result : Result T E) : Type 0 where
  pub later : old ≤ new
  pub same : OnOk result (new ≡ old)
  pub rose : OnErr result (new ≡ min (old + 1) (2 ^ 64 - 1))

-- The call was counted, failed where it was to fail, and raised the count of faults exactly where it failed;
-- which calls are to fail is as it was.
pub record IsCallCounted {T E : Type 0} (old new : Failures) (result : Result T E) : Type 0 where
  pub calls : new.calls ≡ min (old.calls + 1) (2 ^ 64 - 1)
  pub due : is_due old ≡ true → IsErr result
  pub faults : IsFaultCount old.count new.count result
  pub plan : KeepsPlan old new

-- A call that takes no memory was counted, and failed exactly when it was to fail.
pub record IsCallPlanned {T E : Type 0} (old new : Failures) (result : Result T E) : Type 0 where
  pub counted : IsCallCounted old new result
  pub planned : is_err result ≡ is_due old

-- A step of a call raised the count of faults exactly where it failed, and left the number of calls and the
-- plan.
pub record IsStepCounted {T E : Type 0} (old new : Failures) (result : Result T E) : Type 0 where
  pub calls : new.calls ≡ old.calls
  pub faults : IsFaultCount old.count new.count result
  pub plan : KeepsPlan old new

-- A part counts its calls on from those of the host, and none of them has failed.
pub record CountsOn (host part : Failures) : Type 0 where
  pub calls : part.calls ≡ host.calls
  pub count : part.count ≡ 0
  pub plan : KeepsPlan host part

-- A host counts on after a part that is back: its calls from the greater number, and a failure where a call of
-- the part failed.
pub record IsJoined (old part new : Failures) : Type 0 where
  pub calls : new.calls ≡ max old.calls part.calls
  pub later : old.count ≤ new.count
  pub same : part.count ≡ 0 → new.count ≡ old.count
  pub rose : 0 < part.count → new.count ≡ min (old.count + 1) (2 ^ 64 - 1)
  pub plan : KeepsPlan old new
