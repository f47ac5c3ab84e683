-- The limits of a script.
use Rattle.std.specs.Prelude.{◌≡◌, ◌⊎◌, ℕ, zero, suc, ◌+◌, ◌≤◌, ◌<◌, List, length}
use Rattle.pm_types.specs.declared.limits.TheConstants.{SCRIPT_BYTES_MAX, LINES_MAX}
use Rattle.pm_script.specs.Lines.{lines_of, after_line}

-- a script that is within both limits
pub record IsWithinLimits (input : List ℕ) : Type 0 where
  pub bytes : length input ≤ SCRIPT_BYTES_MAX
  pub lines : length (lines_of input) ≤ LINES_MAX

-- a script that passes a limit
abbrev pub PassesLimit : List ℕ → Type 0
PassesLimit input = (SCRIPT_BYTES_MAX < length input) ⊎ (LINES_MAX < length (lines_of input))

-- what stands after the first lines
abbrev pub after_lines : ℕ → List ℕ → List ℕ
after_lines zero bytes = bytes
after_lines (suc n) bytes = after_lines n (after_line bytes)

-- so many lines are ended within both limits, and the next one isn't
pub record AreWithin (input : List ℕ) (lines : ℕ) : Type 0 where
  pub few : lines ≤ LINES_MAX
  pub short : length input ≤ SCRIPT_BYTES_MAX + length (after_lines lines input)
  pub no_more : (lines ≡ LINES_MAX) ⊎ (SCRIPT_BYTES_MAX + length (after_lines (suc lines) input) < length input)
