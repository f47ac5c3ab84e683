-- How many bytes of log a restart would apply, and how many a run may leave.
use Rattle.std.specs.Prelude.{◌⊎◌, ◌≤◌, ◌+◌, ◌-◌, ◌/◌, ◌^◌, ℕ, zero, suc, List, length, min, max}
use Rattle.pm_types.specs.declared.place.Place.{Place}
use Rattle.pm_config.specs.declared.config.Config.{Config}
use Rattle.pm_engine.specs.declared.log_count.TheConstants.{IDLE_SHARE, IDLE_BYTES_MIN}

-- how many bytes so many segments have, from this one on
abbrev pub segments_len : (ℕ → List ℕ) → ℕ → ℕ → ℕ
segments_len log first zero = 0
segments_len log first (suc n) = segments_len log first n + length (log (first + n))

-- how many bytes of log stand from one place up to another one
abbrev pub log_bytes : (ℕ → List ℕ) → Place → Place → ℕ
log_bytes log from end = segments_len log from.seg (end.seg - from.seg) + end.off - from.off

-- so many are counted at least; what is past 2^63 counts as that
abbrev pub CountsAtLeast : ℕ → ℕ → Type 0
CountsAtLeast counted bytes = (bytes ≤ counted) ⊎ (2 ^ 63 ≤ counted)

-- how many bytes of log a run that ends, or an opening, may leave to be applied again
abbrev pub idle_bytes : Config → ℕ
idle_bytes config = min config.checkpoint_bytes (max (config.checkpoint_bytes / IDLE_SHARE) IDLE_BYTES_MIN)
