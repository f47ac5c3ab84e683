-- The lengths of keys and values.
use Rattle.std.specs.Prelude.{ℕ, List, length, ◌≤◌}
use Rattle.pm_types.specs.declared.limits.TheConstants.{KEY_MAX, VALUE_MAX}

-- a key has a byte, and is not too long
pub record HasKeyLength (bytes : List ℕ) : Type 0 where
  pub some : 1 ≤ length bytes
  pub short : length bytes ≤ KEY_MAX

-- a value may be empty, and is not too long
abbrev pub HasValueLength : List ℕ → Type 0
HasValueLength bytes = length bytes ≤ VALUE_MAX
