-- What a sweep over frames does to what a worker keeps, and what its seat met.
use Rattle.std.specs.Prelude.{◌≡◌, ℕ, zero, suc, ◌+◌, ◌<◌, ◌≤◌, ◌⊎◌, ◌↔◌, ◌==◌, ◌&&◌, Bool, true, false}
use Rattle.std.specs.Prelude.{List, [], ◌∷◌, ◌++◌, length, nat_lt, IsTrue}
use Rattle.pm_types.specs.declared.flag.Flag.{Flag}
use Rattle.pm_types.specs.declared.flag.Flag.TheVariants as flag
use Rattle.pm_types.specs.declared.limits.TheConstants.{OP_PAGES}
use Rattle.pm_types.specs.declared.page_id.PageId.{PageId}
use Rattle.pm_locks.specs.Words.{LockWord, AT_HOME, TAG_LAST}
use Rattle.pm_locks.specs.declared.view.Met.{Met}
use Rattle.pm_locks.specs.declared.view.View.{View}
use Rattle.pm_locks.specs.Views.{known_at, word_at}
use Rattle.pm_locks.specs.Sight.{LockTable, IsFrameOf, KnowsAll}
use Rattle.pm_stripe.specs.declared.held.Free.{Free}
use Rattle.pm_stripe.specs.Kept.{Kept, Holds, KeepsPages, IsInHand, IsStaying, is_known}
use Rattle.pm_stripe.specs.Met.{IsRefused, EndsWithTheft, MeetsFrames, MeetsInOrder, GoesOn}
use Rattle.pm_stripe.specs.Sights.{KeepsSight}
use Rattle.pm_stripe.specs.Steals.{LeavesStaying}

-- a frame with this flag may be given to another page
abbrev pub is_spare : Flag → Bool
is_spare flag.Empty = true
is_spare flag.Clean = true
is_spare flag.Dirty = false
is_spare flag.Due = false
is_spare flag.Done = false

-- at home, Empty or Clean, and below the last tag
abbrev pub is_stealable : LockWord → Bool
is_stealable word = (word.holder == AT_HOME) && is_spare word.flag && nat_lt word.tag TAG_LAST

abbrev pub one_if : Bool → ℕ
one_if true = 1
one_if false = 0

-- how many of the first so many frames are so, by the words that a seat for all numbers knows
abbrev pub stealable : View → ℕ → ℕ
stealable v zero = 0
stealable v (suc f) = one_if (is_stealable (known_at v f)) + stealable v f

-- More empty frames are in hand. No page is lost, and none at hand; nothing else changed but what the seat
-- knows.
pub record GathersFrames (locks : LockTable) (k k' : Kept) : Type 0 where
  pub holds : Holds locks k'
  pub keeps : KeepsPages k k'
  pub shape : k'.shape ≡ k.shape
  pub number : k'.number ≡ k.number
  pub held : k'.held ≡ k.held
  pub more : List Free
  pub free : k'.free ≡ k.free ++ more
  pub staying : (id : PageId) → IsStaying k id → IsStaying k' id
  pub unmoved : LeavesStaying k k'
  pub back : (id : PageId) → IsTrue (is_known k' id) → IsTrue (is_known k id)
  pub sight : KeepsSight locks k.seat.view k'.seat.view

-- how many of these entries are of the frame
abbrev pub entries_of : ℕ → List Met → ℕ
entries_of f [] = 0
entries_of f (m ∷ ms) = one_if (m.frame == f) + entries_of f ms

-- Of each frame there are no more entries than one try makes.
pub record TriesOnce (met : List Met) : Type 0 where
  pub few : (f : ℕ) → entries_of f met ≤ 2

-- The last empty frame in hand is the one of the last entry, whose word can be stolen.
pub record EndsWithLast (free : List Free) (met : List Met) : Type 0 where
  pub others : List Free
  pub last : Free
  pub free_is : free ≡ others ++ last ∷ []
  pub ends : EndsWithTheft met last.frame

-- Frames were tried only as long as too few empty ones were in hand: none where enough were, and where enough
-- are now, the last one that was tried made them enough.
pub record StopsAtEnough (free free' : List Free) (met : List Met) : Type 0 where
  pub none : length free ≡ OP_PAGES → met ≡ []
  pub last : length free < OP_PAGES → length free' ≡ OP_PAGES → EndsWithLast free' met

-- The frames from `from` up to, but not with, `end` were tried: each is in hand, or its theft was refused. By
-- the words that a seat for all numbers knew, those that can be stolen were.
pub record TriesFrames (locks : LockTable) (k k' : Kept) (from end : ℕ) : Type 0 where
  pub gathers : GathersFrames locks k k'
  pub few : length k'.free ≤ OP_PAGES
  pub met : List Met
  pub meets : MeetsFrames k k' met
  pub order : MeetsInOrder met from end
  pub each : (f : ℕ) → from ≤ f → f < end → IsInHand k'.held k'.free f ⊎ IsRefused met f
  pub last : from < end → length k'.free ≡ OP_PAGES → EndsWithLast k'.free met
  pub once : TriesOnce met
  pub within : (f : ℕ) → (f < from) ⊎ (end ≤ f) → entries_of f met ≡ 0
  pub words : (f : ℕ) → (f < from) ⊎ (end ≤ f) → word_at k'.seat.view.words f ≡ word_at k.seat.view.words f
  pub counted : KnowsAll locks k.seat.view
      → length k'.free + stealable k.seat.view from ≡ length k.free + stealable k.seat.view end

-- The same up to `upto`, or until enough are in hand. The next sweep begins with the frame after the last one.
pub record TriesRange (locks : LockTable) (k k' : Kept) (from upto next next' : ℕ) : Type 0 where
  pub end : ℕ
  pub after : from ≤ end
  pub before : end ≤ upto
  pub tries : TriesFrames locks k k' from end
  pub stops : (end ≡ upto) ⊎ (length k'.free ≡ OP_PAGES)
  pub enough : length k.free ≡ OP_PAGES → end ≡ from
  pub idle : end ≡ from → next' ≡ next
  pub same : end ≡ from → k'.free ≡ k.free
  pub moved : from < end → next' ≡ end

-- Enough empty frames are in hand, or each frame was tried. By the words that a seat for all numbers knew there
-- are too few exactly where fewer than the missing ones can be stolen.
pub record SweepsFrames (locks : LockTable) (k k' : Kept) (next next' : ℕ) : Type 0 where
  pub gathers : GathersFrames locks k k'
  pub few : length k'.free ≤ OP_PAGES
  pub met : List Met
  pub meets : MeetsFrames k k' met
  pub goes_on : GoesOn (length locks.ranges) met next next'
  pub stops : StopsAtEnough k.free k'.free met
  pub once : TriesOnce met
  pub each : length k'.free < OP_PAGES → (f : ℕ) → IsFrameOf locks f
      → IsInHand k'.held k'.free f ⊎ IsRefused met f
  pub exact : KnowsAll locks k.seat.view
      → (length k'.free < OP_PAGES)
      ↔ (length k.free + stealable k.seat.view (length locks.ranges) < OP_PAGES)
