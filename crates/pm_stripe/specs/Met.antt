-- What calls that try frames met.
use Rattle.std.specs.Prelude.{◌≡◌, ◌≢◌, ℕ, ◌+◌, ◌<◌, ◌≤◌, ◌⊎◌, Bool, true, false, if◌then◌else◌}
use Rattle.std.specs.Prelude.{List, [], ◌∷◌, ◌++◌, length, Option, Some, None, nat_lt, slice_get}
use Rattle.pm_locks.specs.Words.{LockWord, CanBeStolen}
use Rattle.pm_locks.specs.declared.view.Met.{Met}
use Rattle.pm_locks.specs.Steps.{met_as}
use Rattle.pm_locks.specs.Views.{Has, word_at}
use Rattle.pm_stripe.specs.Kept.{Kept, IsInHand}

-- the last of these entries is of the frame, with another word
pub record IsOtherBefore (front : List Met) (f : ℕ) (word : LockWord) : Type 0 where
  pub before : LockWord
  pub rest : List Met
  pub is : front ≡ rest ++ met_as f before ∷ []
  pub differs : word ≢ before

-- Among these entries is one on which a theft of the frame is refused: its word is not one that can be stolen,
-- or not that of the entry of the frame before it.
pub record IsRefused (met : List Met) (f : ℕ) : Type 0 where
  pub front : List Met
  pub word : LockWord
  pub back : List Met
  pub is : met ≡ front ++ met_as f word ∷ back
  pub why : (CanBeStolen word → ⊥) ⊎ IsOtherBefore front f word

-- A call met these. What of them was out at a number of the seat is the word of a frame in hand.
pub record MeetsFrames (k k' : Kept) (met : List Met) : Type 0 where
  pub added : k'.seat.view.met ≡ k.seat.view.met ++ met
  pub own : (i : ℕ) (m : Met) → slice_get met i ≡ Some m → Has k.seat.view m.word.holder
      → IsInHand k'.held k'.free m.frame

-- the last of these entries
abbrev pub last_of : List Met → Option Met
last_of [] = None
last_of (m ∷ []) = Some m
last_of (m ∷ n ∷ ms) = last_of (n ∷ ms)

-- The first of them is of frame `from`, and the last of the frame before `end`. There are none where the two
-- are the same.
pub record MeetsInOrder (met : List Met) (from end : ℕ) : Type 0 where
  pub first : (m : Met) → slice_get met 0 ≡ Some m → m.frame ≡ from
  pub last : (m : Met) → last_of met ≡ Some m → m.frame + 1 ≡ end
  pub none : met ≡ [] → end ≡ from
  pub idle : end ≡ from → met ≡ []

-- the frame with which a sweep over so many begins
abbrev pub start_of : ℕ → ℕ → ℕ
start_of next frames = if nat_lt next frames then next else 0

-- A sweep begins where the last one ended, and the next one after the last frame that was tried.
pub record GoesOn (frames : ℕ) (met : List Met) (next next' : ℕ) : Type 0 where
  pub begins : (m : Met) → slice_get met 0 ≡ Some m → m.frame ≡ start_of next frames
  pub ends : (m : Met) → last_of met ≡ Some m → next' ≡ m.frame + 1
  pub idle : met ≡ [] → next' ≡ next

-- The last of these entries is of the frame, with a word that can be stolen.
pub record EndsWithTheft (met : List Met) (f : ℕ) : Type 0 where
  pub front : List Met
  pub word : LockWord
  pub is : met ≡ front ++ met_as f word ∷ []
  pub can : CanBeStolen word

-- A call tried one frame: what it met is of this frame, one word or two, and of no other frame another word is
-- known.
pub record MeetsFrame (k k' : Kept) (f : ℕ) (found : Bool) : Type 0 where
  pub met : List Met
  pub meets : MeetsFrames k k' met
  pub some : 0 < length met
  pub few : length met ≤ 2
  pub all : (i : ℕ) (m : Met) → slice_get met i ≡ Some m → m.frame ≡ f
  pub got : found ≡ true → EndsWithTheft met f
  pub refused : found ≡ false → IsRefused met f
  pub numbers : k'.seat.view.numbers ≡ k.seat.view.numbers
  pub words : (g : ℕ) → g ≢ f → word_at k'.seat.view.words g ≡ word_at k.seat.view.words g
