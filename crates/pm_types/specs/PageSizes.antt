-- Page sizes.
use Rattle.std.specs.Prelude.{◌≡◌, ◌==◌, ℕ, ◌⊎◌, Bool, ◌||◌}
use Rattle.pm_types.specs.declared.limits.TheConstants.{PAGE_SIZE_MIN, PAGE_SIZE_MAX}

-- one of the five page sizes, in bytes
abbrev pub IsPageSize : ℕ → Type 0
IsPageSize n = (n ≡ PAGE_SIZE_MIN) ⊎ (n ≡ 2048) ⊎ (n ≡ 4096) ⊎ (n ≡ 8192) ⊎ (n ≡ PAGE_SIZE_MAX)

-- the same as a test
abbrev pub is_page_size : ℕ → Bool
is_page_size size = size == PAGE_SIZE_MIN || size == 2048 || size == 4096 || size == 8192 || size == PAGE_SIZE_MAX
