-- The seats of a round.
use Rattle.std.specs.Prelude.{◌≡◌, ℕ, ◌<◌, ◌+◌, ◌++◌, List, [], ◌∷◌, length, Some, None, slice_get}
use Rattle.pm_locks.specs.Words.{LockWord, AT_HOME}
use Rattle.pm_locks.specs.declared.view.Met.{Met}
use Rattle.pm_locks.specs.declared.view.View.{View}
use Rattle.pm_locks.specs.declared.seats.Seats.{Seats}
use Rattle.pm_locks.specs.Views.{entry_at, due_at, word_at, IsStill, worker_alone, flusher_alone}
use Rattle.pm_locks.specs.Sight.{Sight, LockTable, IsSeatOf}
use Rattle.pm_locks.specs.Steps.{met_as, IsBacked, AreDated}
use Rattle.pm_locks.specs.Shares.{IsShare}

-- no seat is there
abbrev pub IsEmpty : Seats → Type 0
IsEmpty seats = (seats.workers.items ≡ []) × (seats.flusher ≡ None)

-- a worker's own seat, with nothing out
pub record IsWorkers (locks : LockTable) (n : ℕ) (seat : Sight) : Type 0 where
  pub of : IsSeatOf locks seat
  pub alone : seat.view.numbers ≡ worker_alone n
  pub still : IsStill seat.view

-- the flusher's own seat, with nothing out
pub record IsFlushers (locks : LockTable) (seat : Sight) : Type 0 where
  pub of : IsSeatOf locks seat
  pub alone : seat.view.numbers ≡ flusher_alone locks.workers
  pub still : IsStill seat.view

-- the seats have all numbers: one seat for each worker, in order, and the flusher's
pub record HaveAll (locks : LockTable) (seats : Seats) : Type 0 where
  pub count : length seats.workers.items ≡ locks.workers
  pub each : (n : ℕ) (seat : Sight) → slice_get seats.workers.items n ≡ Some seat
      → IsWorkers locks n seat
  pub flushers : (seat : Sight) × (seats.flusher ≡ Some seat) × IsFlushers locks seat

-- the first workers' own seats, with what the view had of their numbers
pub record AreWorkers (locks : LockTable) (view : View) (count : ℕ) (seats : List Sight) : Type 0 where
  pub many : length seats ≡ count
  pub each : (n : ℕ) (seat : Sight) → slice_get seats n ≡ Some seat
      → IsWorkers locks n seat × IsShare view (worker_alone n) seat.view × (seat.view.met ≡ [])

-- the seats have what the view had of each number; the flusher's keeps what was met
pub record ArePartsOf (view : View) (seats : Seats) : Type 0 where
  pub workers : (n : ℕ) (seat : Sight) → slice_get seats.workers.items n ≡ Some seat
      → IsShare view (worker_alone n) seat.view × (seat.view.met ≡ [])
  pub flusher : (seat : Sight) → seats.flusher ≡ Some seat
      → IsShare view (flusher_alone view.workers) seat.view × (seat.view.met ≡ view.met)

-- the view has what the seats had of each number
pub record HasGathered (seats : Seats) (view : View) : Type 0 where
  pub entries : (n : ℕ) (seat : Sight) → slice_get seats.workers.items n ≡ Some seat
      → (f : ℕ) → entry_at view.entries n f ≡ entry_at seat.view.entries n f
  pub dues : (seat : Sight) → seats.flusher ≡ Some seat
      → (f : ℕ) → due_at view.dues f ≡ due_at seat.view.dues f

-- what was met of frames from f on that had these words
abbrev pub mets_of : ℕ → List LockWord → List Met
mets_of f [] = []
mets_of f (word ∷ words) = met_as f word ∷ mets_of (f + 1) words

-- the seat left this word at the frame, which is at home, and knows what is so of its bytes
pub record IsKnown (view : View) (f : ℕ) (word : LockWord) : Type 0 where
  pub at : word_at view.words f ≡ Some word
  pub home : word.holder ≡ AT_HOME
  pub worker : word.owner < view.workers
  pub dated : AreDated view f word
  pub bytes : List ℕ
  pub backed : IsBacked view f word bytes

-- so many frames' words were met, one after the other
pub record HasReread (frames : ℕ) (met : List Met) (view : View) : Type 0 where
  pub words : List LockWord
  pub count : length words ≡ frames
  pub mets : view.met ≡ met ++ mets_of 0 words
  pub known : (f : ℕ) (word : LockWord) → slice_get words f ≡ Some word → IsKnown view f word
