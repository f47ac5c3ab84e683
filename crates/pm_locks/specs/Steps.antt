-- What the steps do to the view of their seat, and what the seat is told.
use Rattle.std.specs.Prelude.{◌≡◌, ◌<◌, ◌≤◌, ℕ, Bool, true, false, List, [], ◌∷◌, ◌++◌, ◌⊎◌, Some, None}
use Rattle.pm_types.specs.declared.flag.Flag.{Flag}
use Rattle.pm_types.specs.declared.flag.Flag.TheVariants as flag
use Rattle.pm_region.specs.Lease.{Leased}
use Rattle.pm_locks.specs.Words.{LockWord, AT_HOME, FLUSHER, IsReachedFrom, IsSpare}
use Rattle.pm_locks.specs.declared.view.View.{View}
use Rattle.pm_locks.specs.declared.view.Entry.{Entry}
use Rattle.pm_locks.specs.declared.view.Out.{Out}
use Rattle.pm_locks.specs.declared.view.Due.{Due}
use Rattle.pm_locks.specs.declared.view.Met.{Met}
use Rattle.pm_locks.specs.Views.{entry_at, out_at, due_at, word_at, Has, IsWhole}
use Rattle.pm_locks.specs.Rule.{HasImage, HasTakenImage}

-- what a step met at a frame
abbrev pub met_as : ℕ → LockWord → Met
met_as f word = record { frame = f; word = word }

-- a frame that is out
abbrev pub out_as : LockWord → Leased → Out
out_as word lease = record { word = word; lease = lease }

-- the entry of a frame's owner
abbrev pub entry_as : ℕ → LockWord → List ℕ → Entry
entry_as f word bytes = record {
  number = word.owner;
  frame = f;
  tag = word.tag;
  bytes = bytes;
  flag = word.flag;
}

-- whether it is Done
abbrev pub is_done : Flag → Bool
is_done flag.Empty = false
is_done flag.Clean = false
is_done flag.Dirty = false
is_done flag.Due = false
is_done flag.Done = true

-- the flusher's image, taken where the word says Done
abbrev pub due_as : LockWord → List ℕ → Due
due_as word bytes = record { tag = word.tag; image = bytes; taken = is_done word.flag }

-- the seat met this word
abbrev pub meets : View → ℕ → LockWord → View
meets v f word = record v {
  words = (f, word) ∷ v.words;
  met = v.met ++ met_as f word ∷ [];
}

-- it met the one word, left the other, and has the frame out with this lease
abbrev pub taken_out : View → ℕ → LockWord → LockWord → Leased → View
taken_out v f word left lease = record v {
  outs = (f, Some (out_as left lease)) ∷ v.outs;
  words = (f, left) ∷ v.words;
  met = v.met ++ met_as f word ∷ [];
}

-- the same, under a new tag
abbrev pub stolen_out : View → ℕ → LockWord → LockWord → Leased → View
stolen_out v f word left lease = record (taken_out v f word left lease) {
  entries = entry_as f left lease.bytes ∷ v.entries;
}

-- its worker put the frame back with these bytes, and left this word
abbrev pub put_back : View → ℕ → LockWord → List ℕ → View
put_back v f left bytes = record v {
  outs = (f, None) ∷ v.outs;
  words = (f, left) ∷ v.words;
  entries = entry_as f left bytes ∷ v.entries;
}

-- the flusher put the frame back with these bytes, and left this word
abbrev pub flushed_back : View → ℕ → LockWord → List ℕ → View
flushed_back v f left bytes = record v {
  outs = (f, None) ∷ v.outs;
  words = (f, left) ∷ v.words;
  dues = (f, due_as left bytes) ∷ v.dues;
}

-- the owner's entry of the frame has the word's tag and these bytes, the word's flag is reached from
-- its flag, and no other number of the seat has an entry with that tag
pub record LastPut (v : View) (f : ℕ) (word : LockWord) (bytes : List ℕ) : Type 0 where
  pub entry : Entry
  pub at : entry_at v.entries word.owner f ≡ Some entry
  pub tag : entry.tag ≡ word.tag
  pub same : entry.bytes ≡ bytes
  pub flag : IsReachedFrom entry.flag word.flag
  pub alone : (n : ℕ) (e : Entry) → Has v n → entry_at v.entries n f ≡ Some e
      → e.tag ≡ word.tag → n ≡ word.owner

-- bytes that are a frame's, or that its holder took: those that its owner last put, and the
-- flusher's image where the word says Due or Done
pub record IsBacked (v : View) (f : ℕ) (word : LockWord) (bytes : List ℕ) : Type 0 where
  pub last : Has v word.owner → LastPut v f word bytes
  pub due : Has v FLUSHER → word.flag ≡ flag.Due → HasImage (due_at v.dues f) word.tag bytes
  pub done : Has v FLUSHER → word.flag ≡ flag.Done → HasTakenImage (due_at v.dues f) word.tag bytes

-- a number's entry of a frame, beside the frame's word
pub record IsDated (n : ℕ) (e : Entry) (word : LockWord) : Type 0 where
  -- no entry is newer than the word, and one with the word's tag is the owner's
  pub at_most : e.tag ≤ word.tag
  pub owner : e.tag ≡ word.tag → n ≡ word.owner
  -- an older one is Empty or Clean
  pub older : e.tag < word.tag → IsSpare e.flag

-- each entry of the seat of this frame is so
abbrev pub AreDated : View → ℕ → LockWord → Type 0
AreDated v f word = (n : ℕ) (e : Entry) → Has v n → entry_at v.entries n f ≡ Some e → IsDated n e word

-- what a seat knows of a word that it meets
pub record IsTold (v : View) (f : ℕ) (word : LockWord) : Type 0 where
  -- where it is out at a number of the seat, the seat has the frame out
  pub held : Has v word.holder → (o : Out) × (out_at v.outs f ≡ Some o) × (o.word ≡ word)
  -- a seat that stands for all numbers finds the word that it left
  pub exact : IsWhole v → (known : LockWord) → word_at v.words f ≡ Some known → word ≡ known
  pub home : IsWhole v → (word.holder ≡ AT_HOME) ⊎ Has v word.holder
  -- where it is at home the seat hasn't the frame out
  pub inside : word.holder ≡ AT_HOME → out_at v.outs f ≡ None
  -- the owner is a worker
  pub worker : (n : ℕ) → Has v n → word.owner < v.workers
  -- no entry of the seat is newer, one with the word's tag is the owner's, and an older one is
  -- Empty or Clean
  pub dated : AreDated v f word
  -- the frame's bytes, or those that its holder took
  pub bytes : List ℕ
  pub backed : IsBacked v f word bytes

-- the call met this word and changed nothing else
pub record IsMet (v v' : View) (f : ℕ) (word : LockWord) : Type 0 where
  pub view : v' ≡ meets v f word
  pub told : IsTold v f word
