-- The kind Clock: a ring of frames with a mark each, and a hand that goes round.
use Rattle.std.specs.Prelude.{◌≡◌, ◌≢◌, ℕ, ◌+◌, ◌%◌, ◌^◌, ◌<◌, ◌≤◌, List, length, Bool, true, false}
use Rattle.std.specs.Prelude.{slice_index_or}

-- each frame's mark, and the frame at which the hand stands
pub record Dial : Type 0 where
  pub marks : List Bool
  pub hand : ℕ

-- the frame is marked
abbrev pub is_marked : List Bool → ℕ → Bool
is_marked marks frame = slice_index_or marks frame false

-- the frame so many places after the hand, going round
abbrev pub place_after : List Bool → ℕ → ℕ → ℕ
place_after marks hand places = (hand + places) % length marks

-- the hand has passed so many frames; all of them were marked, and no longer are
pub record HasPassed (old new : List Bool) (hand passed : ℕ) : Type 0 where
  pub within : passed ≤ length old
  pub same_length : length new ≡ length old
  pub marked : (k : ℕ) → k < passed → is_marked old (place_after old hand k) ≡ true
  pub cleared : (k : ℕ) → k < passed → is_marked new (place_after old hand k) ≡ false
  pub kept : (i : ℕ) → ((k : ℕ) → k < passed → i ≢ place_after old hand k) → is_marked new i ≡ is_marked old i

-- the hand passes marked frames alone, and stops at the first that is clear: the one at which it
-- began, where all are marked
pub record Sweeps (old new : List Bool) (hand stop : ℕ) : Type 0 where
  pub passed : ℕ
  pub passes : HasPassed old new hand passed
  pub stops : stop ≡ place_after old hand passed
  pub was_clear : passed < length old → is_marked old stop ≡ false
  pub is_clear : is_marked new stop ≡ false

-- the hand stands at a frame, if there is one
pub record IsDial (marks : List Bool) (hand : ℕ) : Type 0 where
  pub few : length marks < 2 ^ 32
  pub stands : 0 < length marks → hand < length marks
