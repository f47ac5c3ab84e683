-- The rule of the page locks. It holds between any two steps, of the words, of the slots at home and
-- of what every seat knows, whatever the threads do. Its seven parts are numbered below.
use Rattle.std.specs.Prelude.{◌≡◌, ℕ, ◌<◌, ◌≤◌, ◌⊎◌, Bool, true, false, List, length, map}
use Rattle.std.specs.Prelude.{if◌then◌else◌, Option, Some, None, slice_index, slice_index_or}
use mathlib.Core.Option.{some, none}
use mathlib.Core.Option as maybe
use lib.ListN.{get_elem?}
use Rattle.atomic_table.specs.Table.{State}
use Rattle.pm_types.specs.declared.flag.Flag.{Flag}
use Rattle.pm_types.specs.declared.flag.Flag.TheVariants as flag
use Rattle.pm_region.specs.Lease.{Range, Leased}
use Rattle.pm_locks.specs.Words.{LockWord, AT_HOME, FLUSHER, packed, unpacked, IsSpare, IsReachedFrom}
use Rattle.pm_locks.specs.declared.view.Numbers.{Numbers}
use Rattle.pm_locks.specs.declared.view.Entry.{Entry}
use Rattle.pm_locks.specs.declared.view.Out.{Out}
use Rattle.pm_locks.specs.declared.view.Due.{Due}
use Rattle.pm_locks.specs.declared.view.View.{View}
use Rattle.pm_locks.specs.Views.{entry_at, out_at, due_at, word_at, is_among, Has, IsWhole, is_hand}

-- the fields of a word, by its 64 bits
abbrev pub tag_of : ℕ → ℕ
tag_of w = (unpacked w).tag

abbrev pub owner_of : ℕ → ℕ
owner_of w = (unpacked w).owner

abbrev pub holder_of : ℕ → ℕ
holder_of w = (unpacked w).holder

abbrev pub flag_of : ℕ → Flag
flag_of w = (unpacked w).flag

-- what is so of a frame: each number's entry of it, the flusher's image, its lease as it is at home
-- or as its holder took it, and whether its holder carries its slot
pub record PageFrame : Type 0 where
  pub entries : ℕ → Option Entry
  pub due : Option Due
  pub lease : Leased
  pub carried : Bool

-- a slot: what is in it, if it is at home
abbrev pub Home : Type 0
Home = maybe.Option (maybe.Option (Option Leased))

-- the slot of a frame that is out: empty, or carried
abbrev pub vacant : Bool → Home
vacant carried = if carried then some none else some (some None)

-- the flusher's image of a tag is these bytes
abbrev pub HasImage : Option Due → ℕ → List ℕ → Type 0
HasImage due tag bytes = (d : Due) × (due ≡ Some d) × (d.tag ≡ tag) × (d.image ≡ bytes)

-- the same, and it was taken
abbrev pub HasTakenImage : Option Due → ℕ → List ℕ → Type 0
HasTakenImage due tag bytes = (d : Due) × (due ≡ Some d) × (d.tag ≡ tag) × (d.image ≡ bytes)
    × (d.taken ≡ true)

-- a frame, by its number, where it lies in memory, its word and its slot
pub record IsPageFrame (workers : ℕ) (span : Range) (f w : ℕ) (home : Home) (g : PageFrame) : Type 0 where
  pub word : packed (unpacked w) ≡ w
  pub number : g.lease.number ≡ f
  pub range_is : g.lease.range ≡ span
  -- 1: it is at home where its holder is 255, and else its owner or the flusher has it
  pub here : holder_of w ≡ AT_HOME → (home ≡ some (some (Some g.lease))) × (g.carried ≡ false)
  pub away : ¬ (holder_of w ≡ AT_HOME) → (home ≡ vacant g.carried)
      × ((holder_of w ≡ owner_of w) ⊎ (holder_of w ≡ FLUSHER))
  -- 2: no entry's tag is above the word's, and an entry with the word's tag is its owner's
  pub below : (n : ℕ) (e : Entry) → g.entries n ≡ Some e
      → (e.tag ≤ tag_of w) × (e.tag ≡ tag_of w → n ≡ owner_of w)
  pub worker : owner_of w < workers
  -- 3: an older entry is Empty or Clean
  pub older : (n : ℕ) (e : Entry) → g.entries n ≡ Some e → e.tag < tag_of w → IsSpare e.flag
  -- 2, 4: the owner's entry has the word's tag and the frame's bytes, and the word's flag is its
  -- flag, or reached from that
  pub owned : (e : Entry) × (g.entries (owner_of w) ≡ Some e) × (e.tag ≡ tag_of w)
      × (e.bytes ≡ g.lease.bytes) × IsReachedFrom e.flag (flag_of w)
  -- 5: where the word says Due, the flusher's image is the frame's bytes
  pub due : flag_of w ≡ flag.Due → HasImage g.due (tag_of w) g.lease.bytes
  -- 6: where it says Done, the image was taken too
  pub done : flag_of w ≡ flag.Done → HasTakenImage g.due (tag_of w) g.lease.bytes

-- what a seat that stands for these numbers has out of a frame
abbrev pub out_for : Numbers → ℕ → Leased → Option Out
out_for numbers w lease =
    if is_among numbers (holder_of w) then Some (record { word = unpacked w; lease = lease }) else None

-- what a seat's view says is so, and no other seat has its numbers
pub record IsView (workers : ℕ) (frames : ℕ → PageFrame) (words : List ℕ) (seats : ℕ → ℕ) (i : ℕ)
    (v : View) : Type 0 where
  pub staff : (n : ℕ) → Has v n → v.workers ≡ workers
  pub few : v.numbers.upto ≤ workers
  pub mine : (n : ℕ) → Has v n → seats n ≡ i
  pub known : (n f : ℕ) → Has v n → entry_at v.entries n f ≡ (frames f).entries n
  pub due : (f : ℕ) → Has v FLUSHER → due_at v.dues f ≡ (frames f).due
  pub foreign : (n f : ℕ) → ¬ Has v n → entry_at v.entries n f ≡ None
  pub foreign_due : (f : ℕ) → ¬ Has v FLUSHER → due_at v.dues f ≡ None
  -- 1, 4: the seat of the holder's number has the frame out, and took its bytes
  pub outs : (f : ℕ) → f < length words
      → out_at v.outs f ≡ out_for v.numbers (slice_index words f) (frames f).lease
  pub hand : (f : ℕ) → f < length words → Has v (holder_of (slice_index words f))
      → (frames f).carried ≡ is_hand v.hand f
  -- 7: a seat that stands for all numbers knows the words that it left
  pub left : IsWhole v → (f : ℕ) (w : LockWord) → f < length words
      → word_at v.words f ≡ Some w → unpacked (slice_index words f) ≡ w

-- nowhere in memory
abbrev pub nowhere : Range
nowhere = record { block = 0; start = 0; len = 0 }

-- where the frame lies
abbrev pub frame_range : List Range → ℕ → Range
frame_range ranges f = slice_index_or ranges f nowhere

-- the same, by what a seat knows of the start
abbrev pub known_range : View → ℕ → Range
known_range v f = frame_range (map (λ y. y.range) v.leases) f

-- the rule of locks for so many workers, whose frames lie there
pub record IsLawful (workers : ℕ) (ranges : List Range) (s : State (Option Leased) View) : Type 0 where
  pub frames : ℕ → PageFrame
  pub seats : ℕ → ℕ
  pub few : workers ≤ FLUSHER
  pub sized : length s.homes ≡ length s.words
  pub each_frame : (f : ℕ) → f < length s.words
      → IsPageFrame workers (frame_range ranges f) f (slice_index s.words f) (get_elem? s.homes f) (frames f)
  -- a seat with a number knows where the frames lie
  pub began : (i : ℕ) (v : View) → get_elem? s.views i ≡ some v → (n : ℕ) → Has v n
      → map (λ y. y.range) v.leases ≡ ranges
  pub each_view : (i : ℕ) (v : View) → get_elem? s.views i ≡ some v
      → IsView workers frames s.words seats i v
  -- each number belongs to a seat, and so to just one
  pub each_number : (n : ℕ) → (n < workers) ⊎ (n ≡ FLUSHER)
      → (v : View) × (get_elem? s.views (seats n) ≡ some v) × Has v n
