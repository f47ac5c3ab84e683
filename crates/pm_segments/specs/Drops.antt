-- How segments are removed: each that is there is removed, and then its absence is forced.
use Rattle.std.specs.Prelude.{◌≡◌, ◌⊎◌, ◌≤◌, ◌<◌, ◌+◌, ◌-◌, ℕ, zero, suc, max, List, [], ◌∷◌, ◌++◌}
use Rattle.std.specs.Prelude.{if◌then◌else◌, Bool, is_some, None, IsSome}
use Rattle.pm_disk.specs.Files.{absent}
use Rattle.pm_disk.specs.Worlds.{World, segment_in}
use Rattle.pm_records.specs.LogSteps.{Step, DropSegment, ForceSegment}
use Rattle.pm_segments.specs.Ends.{LogEnd}

-- whether a segment's file is there
abbrev pub is_there : ℕ → World → Bool
is_there seg world = is_some (segment_in world seg)

-- a segment that is there is removed, and its absence forced
abbrev pub drop_one : ℕ → World → List Step
drop_one seg world = if is_there seg world then DropSegment seg ∷ ForceSegment seg ∷ [] else []

-- the same of each of so many segments from one on, the lowest first
unfoldable pub drop_steps : ℕ → ℕ → World → List Step
drop_steps from zero world = []
drop_steps from (suc n) world = drop_one from world ++ drop_steps (from + 1) n world

-- the log of which only segments from this one on are kept
abbrev pub kept_from : ℕ → LogEnd → LogEnd
kept_from seg log = record log { first = max log.first seg }

-- the steps by which the kept segments below this one are removed
abbrev pub drop_before_steps : LogEnd → ℕ → World → List Step
drop_before_steps log seg world = drop_steps log.first (max log.first seg - log.first) world

-- The segments from one on up to another one aren't there, and that lasts where they were there. All
-- others are as they were.
pub record AreDropped (from to : ℕ) (old now : World) : Type 0 where
  pub gone : (seg : ℕ) → from ≤ seg → seg < to → segment_in now seg ≡ None
  pub lasts : (seg : ℕ) → from ≤ seg → seg < to → IsSome (segment_in old seg) → now.log seg ≡ absent
  pub others : (seg : ℕ) → (seg < from) ⊎ (to ≤ seg) → now.log seg ≡ old.log seg
