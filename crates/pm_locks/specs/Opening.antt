-- The locks at the start: every frame at home and Empty with tag 0, owned by the workers in turn.
use Rattle.std.specs.Prelude.{◌≡◌, ℕ, ◌+◌, ◌%◌, ◌<◌, List, [], ◌∷◌, None, Some, length, slice_get, slice_index}
use Rattle.pm_types.specs.declared.flag.Flag.TheVariants as flag
use Rattle.pm_region.specs.Lease.{Leased}
use Rattle.pm_locks.specs.Words.{LockWord, AT_HOME, packed, unpacked}
use Rattle.pm_locks.specs.declared.view.Entry.{Entry}
use Rattle.pm_locks.specs.declared.view.View.{View}
use Rattle.pm_locks.specs.Views.{all_numbers}
use Rattle.pm_locks.specs.Steps.{entry_as}

-- a frame's first word
abbrev pub first_word : ℕ → ℕ → LockWord
first_word workers f = record { tag = 0; owner = f % workers; holder = AT_HOME; flag = flag.Empty }

-- the owners' entries of these leases, the first of which has the number f
abbrev pub first_entries : ℕ → ℕ → List Leased → List Entry
first_entries workers f [] = []
first_entries workers f (y ∷ ys) =
    entry_as f (first_word workers f) y.bytes ∷ first_entries workers (f + 1) ys

-- the words of their frames
abbrev pub first_words : ℕ → ℕ → List Leased → List (ℕ × LockWord)
first_words workers f [] = []
first_words workers f (y ∷ ys) = (f, first_word workers f) ∷ first_words workers (f + 1) ys

-- what the first seat knows
abbrev pub first_view : ℕ → List Leased → View
first_view workers leases = record {
  workers = workers;
  leases = leases;
  numbers = all_numbers workers;
  entries = first_entries workers 0 leases;
  outs = [];
  dues = [];
  words = first_words workers 0 leases;
  hand = None;
  met = [];
}

-- the lease at index i has the number i
abbrev pub AreNumbered : List Leased → Type 0
AreNumbered leases = (i : ℕ) (lease : Leased) → slice_get leases i ≡ Some lease → lease.number ≡ i

-- a frame's first word, in 64 bits
pub record IsFirst (workers f bits : ℕ) : Type 0 where
  pub fields : unpacked bits ≡ first_word workers f
  pub exact : packed (unpacked bits) ≡ bits

-- the first words of so many frames
pub record AreFirst (workers frames : ℕ) (words : List ℕ) : Type 0 where
  pub count : length words ≡ frames
  pub each : (f : ℕ) → f < frames → IsFirst workers f (slice_index words f)
