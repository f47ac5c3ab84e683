-- What a worker's calls keep of what their seat knows.
use Rattle.std.specs.Prelude.{◌≡◌, ◌≢◌, ℕ, ◌<◌, true, Option, Some, None}
use Rattle.pm_types.specs.declared.flag.Flag.TheVariants as flag
use Rattle.pm_locks.specs.Words.{LockWord, AT_HOME, IsSpare}
use Rattle.pm_locks.specs.declared.view.Entry.{Entry}
use Rattle.pm_locks.specs.declared.view.Numbers.{Numbers}
use Rattle.pm_locks.specs.declared.view.Out.{Out}
use Rattle.pm_locks.specs.declared.view.View.{View}
use Rattle.pm_locks.specs.Sight.{LockTable, IsFrameOf, KnowsAll}
use Rattle.pm_locks.specs.Views.{known_at, out_at, entry_at, is_among}

-- A frame that no checkpoint has to write: it is neither Due nor Done. What its owner last put there has the word's
-- tag and flag, and what another number of the seat last put there is Empty or Clean.
pub record IsSettledFrame (workers : ℕ) (numbers : Numbers) (word : LockWord) (held : Option Out)
    (put : ℕ → Option Entry) : Type 0 where
  pub worker : word.owner < workers
  pub not_due : word.flag ≢ flag.Due
  pub not_done : word.flag ≢ flag.Done
  -- it is at home, or out with the word that is known
  pub home : held ≡ None → word.holder ≡ AT_HOME
  pub out : (o : Out) → held ≡ Some o → o.word ≡ word
  pub last : Entry
  pub at : put word.owner ≡ Some last
  pub tag_is : last.tag ≡ word.tag
  pub flag_is : last.flag ≡ word.flag
  pub others : (n : ℕ) (e : Entry) → is_among numbers n ≡ true → n ≢ word.owner → put n ≡ Some e
      → IsSpare e.flag

-- the same of a frame as a seat knows it
abbrev pub IsSettledIn : View → ℕ → Type 0
IsSettledIn v f =
    IsSettledFrame v.workers v.numbers (known_at v f) (out_at v.outs f) (λ n. entry_at v.entries n f)

-- A seat for all numbers knows the word of each frame, and each frame is so.
pub record AreSettled (locks : LockTable) (view : View) : Type 0 where
  pub knows : KnowsAll locks view
  pub each : (f : ℕ) → IsFrameOf locks f → IsSettledIn view f

-- The seat stands for the numbers for which it stood. Where it knew the word of each frame it does so still, and
-- where no checkpoint had to write a frame none has to.
pub record KeepsSight (locks : LockTable) (old new : View) : Type 0 where
  pub numbers : new.numbers ≡ old.numbers
  pub knows : KnowsAll locks old → KnowsAll locks new
  pub settled : AreSettled locks old → AreSettled locks new
