-- What calls make of the write buffer, and when they are refused.
use Rattle.std.specs.Prelude.{◌≡◌, ◌↔◌, [], IsTrue, Result, IsErr, OnOk}
use Rattle.pm_disk_fs.specs.declared.writes.Writes.{Writes}

-- A call that writes what is buffered, and changes no file besides.
pub record FlushesBuffer {T E : Type 0} (old new : Writes) (result : Result T E) : Type 0 where
  pub flushed : OnOk result (new.buffer.bytes ≡ [])
  pub same : OnOk result (new.is_poisoned ≡ old.is_poisoned)
  pub still_poisoned : IsTrue old.is_poisoned → IsTrue new.is_poisoned

-- A call that changes or forces a file is refused once one has failed, and fails exactly when the
-- host is poisoned then.
pub record PoisonsOnFailure {T E : Type 0} (old new : Writes) (result : Result T E) : Type 0 where
  pub refused : IsTrue old.is_poisoned → IsErr result
  pub poisoned : IsErr result ↔ IsTrue new.is_poisoned

-- A call that changes or forces a file, and leaves what is buffered.
pub record ChangesFile {T E : Type 0} (old new : Writes) (result : Result T E) : Type 0 where
  pub poisons : PoisonsOnFailure old new result
  pub buffered : new.buffer ≡ old.buffer

-- A call that changes or forces a segment of the log, after what is buffered was written.
pub record ChangesLog {T E : Type 0} (old new : Writes) (result : Result T E) : Type 0 where
  pub poisons : PoisonsOnFailure old new result
  pub flushed : OnOk result (new.buffer.bytes ≡ [])
