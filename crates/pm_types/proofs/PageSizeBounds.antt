-- How small and how large a page is.
use Rattle.std.proofs.Common.{ℕ, ◌≤◌, arith}
use Rattle.pm_types.specs.PageSizes.{IsPageSize}

-- a page is neither empty nor too long for offsets of 16 bits
pub page_size_bounds : (n : ℕ) → IsPageSize n → (1024 ≤ n) × (n ≤ 16384)
page_size_bounds n size = (grind arith, grind arith)
