-- What a seat's view says of each frame.
use Rattle.std.specs.Prelude.{◌≡◌, ℕ, Bool, true, false, List, [], ◌∷◌, ◌+◌, ◌==◌, ◌&&◌, ◌||◌}
use Rattle.std.specs.Prelude.{if◌then◌else◌, Option, Some, None, nat_le, nat_lt}
use Rattle.pm_types.specs.declared.flag.Flag.{Flag}
use Rattle.pm_types.specs.declared.flag.Flag.TheVariants as flag
use Rattle.pm_locks.specs.Words.{LockWord, FLUSHER}
use Rattle.pm_locks.specs.declared.view.Numbers.{Numbers}
use Rattle.pm_locks.specs.declared.view.Entry.{Entry}
use Rattle.pm_locks.specs.declared.view.Out.{Out}
use Rattle.pm_locks.specs.declared.view.Due.{Due}
use Rattle.pm_locks.specs.declared.view.View.{View}

-- whether a number is one of these
abbrev pub is_among : Numbers → ℕ → Bool
is_among numbers n =
    (nat_le numbers.from n && nat_lt n numbers.upto) || (n == FLUSHER && numbers.flusher)

-- the seat stands for the number
abbrev pub Has : View → ℕ → Type 0
Has view n = is_among view.numbers n ≡ true

-- every worker's number, and the flusher's
abbrev pub all_numbers : ℕ → Numbers
all_numbers workers = record { from = 0; upto = workers; flusher = true }

-- one worker's number
abbrev pub worker_alone : ℕ → Numbers
worker_alone n = record { from = n; upto = n + 1; flusher = false }

-- the flusher's number
abbrev pub flusher_alone : ℕ → Numbers
flusher_alone workers = record { from = workers; upto = workers; flusher = true }

-- the seat stands for all numbers
abbrev pub IsWhole : View → Type 0
IsWhole view = view.numbers ≡ all_numbers view.workers

-- a number's last entry of a frame
abbrev pub entry_at : List Entry → ℕ → ℕ → Option Entry
entry_at [] n f = None
entry_at (e ∷ es) n f = if e.number == n && e.frame == f then Some e else entry_at es n f

-- an entry where there is none
abbrev pub entry_or : Option Entry → Entry
entry_or None = record { number = 0; frame = 0; tag = 0; bytes = []; flag = flag.Empty }
entry_or (Some e) = e

-- what a number last left at a frame
abbrev pub left_at : View → ℕ → ℕ → Entry
left_at view n f = entry_or (entry_at view.entries n f)

-- it left this flag there under this tag
pub record HasLeft (view : View) (n f tag : ℕ) (want : Flag) : Type 0 where
  pub at : entry_at view.entries n f ≡ Some (left_at view n f)
  pub tag_is : (left_at view n f).tag ≡ tag
  pub flag_is : (left_at view n f).flag ≡ want

-- what the seat has out of a frame
abbrev pub out_at : List (ℕ × Option Out) → ℕ → Option Out
out_at [] f = None
out_at (o ∷ os) f = if o.0 == f then o.1 else out_at os f

-- the flusher's image of a frame
abbrev pub due_at : List (ℕ × Due) → ℕ → Option Due
due_at [] f = None
due_at (d ∷ ds) f = if d.0 == f then Some d.1 else due_at ds f

-- the word that the seat left at a frame
abbrev pub word_at : List (ℕ × LockWord) → ℕ → Option LockWord
word_at [] f = None
word_at (w ∷ ws) f = if w.0 == f then Some w.1 else word_at ws f

-- a word where none is known
abbrev pub word_or : Option LockWord → LockWord
word_or None = record { tag = 0; owner = 0; holder = 0; flag = flag.Empty }
word_or (Some w) = w

-- the word that the seat knows at a frame
abbrev pub known_at : View → ℕ → LockWord
known_at view f = word_or (word_at view.words f)

-- the seat has nothing out
abbrev pub IsStill : View → Type 0
IsStill view = (f : ℕ) → out_at view.outs f ≡ None

-- the frame's slot is the one that the seat carries
abbrev pub is_hand : Option ℕ → ℕ → Bool
is_hand None f = false
is_hand (Some k) f = k == f

-- the seat has no entry of another number, and images only where it stands for the flusher
pub record IsOwnAlone (view : View) : Type 0 where
  pub entries : (n f : ℕ) → ¬ Has view n → entry_at view.entries n f ≡ None
  pub dues : (f : ℕ) → ¬ Has view FLUSHER → due_at view.dues f ≡ None

-- the word has this tag, and a number of the seat for its owner
pub record IsMine (view : View) (word : LockWord) (tag : ℕ) : Type 0 where
  pub same : word.tag ≡ tag
  pub owner : Has view word.owner
