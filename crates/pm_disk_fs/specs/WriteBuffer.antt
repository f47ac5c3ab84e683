-- The write buffer: writes to the log that follow each other and aren't with the system yet.
use Rattle.std.specs.Prelude.{◌≡◌, ◌+◌, ◌<◌, ◌≤◌, ◌⊎◌, ℕ, List, [], ◌++◌, length}
use Rattle.pm_disk_fs.specs.declared.write_buffer.TheConstants.{BUFFER_MAX}

-- Bytes of one segment, from an offset on.
pub record Stretch : Type 0 where
  pub seg : ℕ
  pub at : ℕ
  pub bytes : List ℕ

-- A write of these bytes at this place follows the stretch, and there is room for it.
pub record FitsAfter (stretch : Stretch) (seg at : ℕ) (more : List ℕ) : Type 0 where
  pub some : 0 < length stretch.bytes
  pub more_too : 0 < length more
  pub segment : stretch.seg ≡ seg
  pub follows : stretch.at + length stretch.bytes ≡ at
  pub fits : length stretch.bytes + length more ≤ BUFFER_MAX

-- The bytes of a write at this place follow what was buffered before, which stays where it was.
pub record IsAppended (old new : Stretch) (seg at : ℕ) (more : List ℕ) : Type 0 where
  pub segment : new.seg ≡ seg
  pub grows : new.bytes ≡ old.bytes ++ more
  pub follows : new.at + length old.bytes ≡ at
  pub stays : 0 < length old.bytes → (old.seg ≡ new.seg) × (old.at ≡ new.at)

-- The bytes of a write at this place are all that is buffered.
pub record IsAlone (new : Stretch) (seg at : ℕ) (more : List ℕ) : Type 0 where
  pub segment : new.seg ≡ seg
  pub offset : new.at ≡ at
  pub all : new.bytes ≡ more

-- A write follows what was buffered before, or is alone in the buffer since that was written, or
-- nothing is buffered any more since both were written.
abbrev pub IsBufferedOrWritten : Stretch → Stretch → ℕ → ℕ → List ℕ → Type 0
IsBufferedOrWritten old new seg at more = IsAppended old new seg at more
    ⊎ (IsAlone new seg at more ⊎ (new.bytes ≡ []))

-- A buffer of this length and capacity: it is bounded, and has its room taken once there is something in it.
pub record IsBuffer (len capacity : ℕ) : Type 0 where
  pub bounded : len ≤ BUFFER_MAX
  pub taken : 0 < len → BUFFER_MAX ≤ capacity
