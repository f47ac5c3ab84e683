-- When a frame was used last, by a tick that rises with each use.
use Rattle.std.specs.Prelude.{◌≡◌, ℕ, ◌+◌, ◌-◌, ◌^◌, ◌<◌, ◌≤◌, ◌⊎◌, min}

-- the next tick; the last one stays
abbrev pub raised : ℕ → ℕ
raised tick = min (tick + 1) (2 ^ 64 - 1)

-- of two frames, each with its stamp, the first has the lesser stamp, or the same and the lesser number
abbrev pub IsNoLater : ℕ → ℕ → ℕ → ℕ → Type 0
IsNoLater stamp frame other_stamp other = (stamp < other_stamp) ⊎ ((stamp ≡ other_stamp) × (frame ≤ other))
