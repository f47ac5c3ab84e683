-- What each answer says.
use Rattle.std.specs.Prelude.{◌≡◌, ◌≢◌, ℕ, ◌+◌, ◌⊎◌, List, [], Option, Some, None}
use Rattle.pm_types.specs.declared.flag.Flag.{Flag}
use Rattle.pm_types.specs.declared.flag.Flag.TheVariants as flag
use Rattle.pm_region.specs.Lease.{Leased}
use Rattle.pm_locks.specs.Words.{LockWord, AT_HOME, FLUSHER, IsReachedFrom, CanBeStolen, IsWanted}
use Rattle.pm_locks.specs.Words.{held_by, stolen_as}
use Rattle.pm_locks.specs.declared.view.View.{View}
use Rattle.pm_locks.specs.declared.view.Entry.{Entry}
use Rattle.pm_locks.specs.declared.view.Out.{Out}
use Rattle.pm_locks.specs.declared.own.Take.{Take}
use Rattle.pm_locks.specs.declared.own.Take.TheVariants as take
use Rattle.pm_locks.specs.declared.steal.Steal.{Steal}
use Rattle.pm_locks.specs.declared.steal.Steal.TheVariants as steal
use Rattle.pm_locks.specs.declared.flush.FlushTake.{FlushTake}
use Rattle.pm_locks.specs.declared.flush.FlushTake.TheVariants as flushed
use Rattle.pm_locks.specs.Rule.{nowhere, known_range}
use Rattle.pm_locks.specs.Views.{entry_at, out_at, Has, IsMine}
use Rattle.pm_locks.specs.Steps.{meets, taken_out, stolen_out, IsTold, IsMet, IsBacked}

-- the call met two words, the last of which is this one, and changed nothing else
pub record MetTwo (v v' : View) (f : ℕ) (word : LockWord) : Type 0 where
  pub before : LockWord
  pub differs : word ≢ before
  pub first : IsTold v f before
  pub last : IsMet (meets v f before) v' f word

-- the last word that the call met is this one; it changed nothing else
abbrev pub MetLast : View → View → ℕ → LockWord → Type 0
MetLast v v' f word = IsMet v v' f word ⊎ MetTwo v v' f word

-- the last word that the call met is this one, and it is out, or the word before was another
abbrev pub MetBusy : View → View → ℕ → LockWord → Type 0
MetBusy v v' f word = (IsMet v v' f word × (word.holder ≢ AT_HOME)) ⊎ MetTwo v v' f word

-- own_take got the frame: at home, with the tag, owned by a number of the seat, and with the bytes that
-- this number last put
pub record GotOwn (v v' : View) (f tag : ℕ) (lease : Leased) (told : Flag) : Type 0 where
  pub word : LockWord
  pub mine : IsMine v word tag
  pub home : word.holder ≡ AT_HOME
  pub flag : told ≡ word.flag
  pub here : lease.number ≡ f
  pub range_is : lease.range ≡ known_range v f
  pub met : IsTold v f word
  pub backed : IsBacked v f word lease.bytes
  pub view : v' ≡ taken_out (meets v f word) f word (held_by word.owner word) lease

-- at the deciding step the tag differs, or the owner is no number of the seat
pub record IsGone (v v' : View) (f tag : ℕ) : Type 0 where
  pub word : LockWord
  pub not_mine : ¬ IsMine v word tag
  pub met : MetLast v v' f word

abbrev pub OwnTakeAnswer : View → View → ℕ → ℕ → Take → Type 0
OwnTakeAnswer v v' f tag (take.Got lease told) = GotOwn v v' f tag lease told
OwnTakeAnswer v v' f tag take.Gone = IsGone v v' f tag
OwnTakeAnswer v v' f tag (take.Busy word) = IsMine v word tag × MetBusy v v' f word

-- a lease and a flag, after the entry
pub record IsAsPut (entry : Entry) (lease : Leased) (told : Flag) : Type 0 where
  pub bytes : lease.bytes ≡ entry.bytes
  pub flag : IsReachedFrom entry.flag told

-- the lease has what any number of the seat last put under this tag
abbrev pub HoldsLastPut : View → ℕ → ℕ → Take → Type 0
HoldsLastPut v f tag (take.Got lease told) = (n : ℕ) (e : Entry) → Has v n
    → entry_at v.entries n f ≡ Some e → e.tag ≡ tag → IsAsPut e lease told
HoldsLastPut v f tag take.Gone = Unit {0}
HoldsLastPut v f tag (take.Busy word) = Unit {0}

-- beside the word that a seat for all numbers knows
abbrev pub IsExactTake : View → ℕ → LockWord → Take → Type 0
IsExactTake v tag known (take.Got lease told) = IsMine v known tag × (known.holder ≡ AT_HOME)
IsExactTake v tag known take.Gone = ¬ IsMine v known tag
IsExactTake v tag known (take.Busy word) = (word ≡ known) × (known.holder ≢ AT_HOME)

-- steal got the frame: it could be stolen, and is out under the next tag
pub record GotStolen (v v' : View) (number f : ℕ) (lease : Leased) (tag : ℕ) : Type 0 where
  pub word : LockWord
  pub free : CanBeStolen word
  pub next : tag ≡ word.tag + 1
  pub here : lease.number ≡ f
  pub range_is : lease.range ≡ known_range v f
  pub met : IsTold v f word
  pub view : v' ≡ stolen_out (meets v f word) f word (stolen_as number word) lease

abbrev pub StealAnswer : View → View → ℕ → ℕ → Steal → Type 0
StealAnswer v v' number f (steal.Got lease tag) = GotStolen v v' number f lease tag
StealAnswer v v' number f (steal.Not word) = (IsMet v v' f word × ¬ CanBeStolen word) ⊎ MetTwo v v' f word

-- beside the word that a seat for all numbers knows
abbrev pub IsExactSteal : LockWord → Steal → Type 0
IsExactSteal known (steal.Got lease tag) = CanBeStolen known
IsExactSteal known (steal.Not word) = (word ≡ known) × ¬ CanBeStolen known

-- flush_take got the frame: at home, with this tag and this flag, and with the image where that is due
pub record GotLent (v v' : View) (f tag : ℕ) (want : Flag) (lease : Leased) : Type 0 where
  pub word : LockWord
  pub wanted : IsWanted word tag want
  pub home : word.holder ≡ AT_HOME
  pub here : lease.number ≡ f
  pub range_is : lease.range ≡ known_range v f
  pub met : IsTold v f word
  pub backed : IsBacked v f word lease.bytes
  pub view : v' ≡ taken_out (meets v f word) f word (held_by FLUSHER word) lease

-- at the deciding step the tag or the flag differs
pub record HasMoved (v v' : View) (f tag : ℕ) (want : Flag) : Type 0 where
  pub word : LockWord
  pub not_wanted : ¬ IsWanted word tag want
  pub met : MetLast v v' f word

abbrev pub FlushTakeAnswer : View → View → ℕ → ℕ → Flag → FlushTake → Type 0
FlushTakeAnswer v v' f tag want (flushed.Got lease) = GotLent v v' f tag want lease
FlushTakeAnswer v v' f tag want flushed.Moved = HasMoved v v' f tag want
FlushTakeAnswer v v' f tag want (flushed.Busy word) = IsWanted word tag want × MetBusy v v' f word

-- beside the word that a seat for all numbers knows
abbrev pub IsExactFlushTake : ℕ → Flag → LockWord → FlushTake → Type 0
IsExactFlushTake tag want known (flushed.Got lease) = IsWanted known tag want × (known.holder ≡ AT_HOME)
IsExactFlushTake tag want known flushed.Moved = ¬ IsWanted known tag want
IsExactFlushTake tag want known (flushed.Busy word) = (word ≡ known) × (known.holder ≢ AT_HOME)

-- a word and a lease where none are
abbrev pub nothing : Out
nothing = record {
  word = record { tag = 0; owner = 0; holder = 0; flag = flag.Empty };
  lease = record { number = 0; bytes = []; range = nowhere };
}

abbrev pub out_or : Option Out → Out
out_or None = nothing
out_or (Some o) = o

-- what the seat has out of a frame
abbrev pub out_of : View → ℕ → Out
out_of v f = out_or (out_at v.outs f)

-- the seat took the frame by own_take or steal
pub record IsOwnOut (v : View) (f : ℕ) : Type 0 where
  pub out : out_at v.outs f ≡ Some (out_of v f)
  pub own : (out_of v f).word.holder ≡ (out_of v f).word.owner

-- the seat took the frame by flush_take
pub record IsLentOut (v : View) (f : ℕ) : Type 0 where
  pub out : out_at v.outs f ≡ Some (out_of v f)
  pub lent : (out_of v f).word.holder ≡ FLUSHER

-- the lease is the one that was taken, whatever its bytes
pub record IsSameLease (was lease : Leased) : Type 0 where
  pub number : lease.number ≡ was.number
  pub range : lease.range ≡ was.range

-- the flags that a worker may put, after the flag and the bytes that the frame had when it was taken
pub record MayPut (was : Out) (now : Flag) (bytes : List ℕ) : Type 0 where
  pub dirty : was.word.flag ≡ flag.Dirty → now ≡ flag.Dirty
  pub changed : (was.word.flag ≡ flag.Due) ⊎ (was.word.flag ≡ flag.Done)
      → bytes ≢ was.lease.bytes → now ≡ flag.Dirty
  pub due : was.word.flag ≡ flag.Due → (now ≡ flag.Dirty) ⊎ (now ≡ flag.Due)
  pub as_due : now ≡ flag.Due → (was.word.flag ≡ flag.Due) × (bytes ≡ was.lease.bytes)
  pub as_done : now ≡ flag.Done → (was.word.flag ≡ flag.Done) × (bytes ≡ was.lease.bytes)
