-- The kind SegmentedLru: a frame that was used since it was taken is protected, and at most half of
-- the frames are.
use Rattle.std.specs.Prelude.{◌≡◌, ℕ, ◌/◌, ◌^◌, ◌<◌, ◌≤◌, List, length, Option, Some, None}
use Rattle.std.specs.Prelude.{Bool, false, true, count_by, slice_index_or, slice_set, if◌then◌else◌}
use Rattle.pm_policies.specs.declared.segments.Standing.{Standing}
use Rattle.pm_policies.specs.declared.tournament.Contender.{Contender}
use Rattle.pm_policies.specs.Stamps.{IsNoLater}
use Rattle.pm_policies.specs.Tournaments.{IsTournament, leaf_at}

-- each frame's stamp and whether it is protected, and the tick
pub record Halves : Type 0 where
  pub frames : List Standing
  pub tick : ℕ

-- a frame at first
abbrev pub fresh : Standing
fresh = record { stamp = 0; is_protected = false }

abbrev pub standing_at : List Standing → ℕ → Standing
standing_at frames i = slice_index_or frames i fresh

-- how many frames are protected
abbrev pub count_protected : List Standing → ℕ
count_protected frames = count_by (λ (s : Standing). s.is_protected) frames

-- the frames, where one has this stamp and is protected or not
abbrev pub placed : List Standing → ℕ → ℕ → Bool → List Standing
placed frames frame stamp is_protected =
    slice_set frames frame (record { stamp = stamp; is_protected = is_protected })

-- of the protected frames, or of the others, this one has the least stamp, and of those with that
-- stamp the least number
pub record IsOldest (frames : List Standing) (is_protected : Bool) (frame : ℕ) : Type 0 where
  pub within : frame < length frames
  pub stands : (standing_at frames frame).is_protected ≡ is_protected
  pub oldest : (i : ℕ) → i < length frames → (standing_at frames i).is_protected ≡ is_protected
      → IsNoLater (standing_at frames frame).stamp frame (standing_at frames i).stamp i

-- the oldest protected frame is no longer protected
pub record Demotes (old new : List Standing) : Type 0 where
  pub frame : ℕ
  pub was_oldest : IsOldest old true frame
  pub demoted : new ≡ placed old frame (standing_at old frame).stamp false

-- the frame has this stamp and is protected; where more than half of the frames would be protected,
-- the oldest of these no longer is
pub record Protects (old new : List Standing) (frame stamp : ℕ) : Type 0 where
  pub at_most_half : count_protected (placed old frame stamp true) ≤ length old / 2
      → new ≡ placed old frame stamp true
  pub above_half : length old / 2 < count_protected (placed old frame stamp true)
      → Demotes (placed old frame stamp true) new

-- the frame with its stamp, if it is on that side
abbrev pub contender_of : Bool → Standing → ℕ → Option Contender
contender_of true s frame = if s.is_protected then Some (record { stamp = s.stamp; frame = frame }) else None
contender_of false s frame = if s.is_protected then None else Some (record { stamp = s.stamp; frame = frame })

-- the leaves of a tournament are the frames on that side
pub record HasSide (frames : List Standing) (is_protected : Bool)
    (nodes : List (Option Contender)) : Type 0 where
  pub games : IsTournament (length frames) nodes
  pub leaves : (i : ℕ) → i < length frames
      → leaf_at (length frames) nodes i ≡ contender_of is_protected (standing_at frames i) i

-- two tournaments, of the protected frames and of the others, and the number of the former
pub record IsSegments (frames : List Standing) (others spared : List (Option Contender))
    (count : ℕ) : Type 0 where
  pub few : length frames < 2 ^ 32
  pub probationary : HasSide frames false others
  pub protected : HasSide frames true spared
  pub counted : count ≡ count_protected frames
