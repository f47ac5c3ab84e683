-- Numbers in the bytes of a page. All are unsigned and little-endian.
use Rattle.std.specs.Prelude.{◌≡◌, ℕ, ◌+◌, ◌<◌, ◌≤◌, List, slice_index, slice_range}
use Rattle.std.specs.Int.{w16, w32, w64, from_le_bytes}
use Rattle.pm_types.specs.declared.spans.Span.{Span}
use Rattle.pm_types.specs.Spans.{IsInSpan, Coverage}
use Rattle.pm_types.specs.Pages.{SameOutside, IsNoted}

-- so many bytes from an offset on
abbrev pub bytes_at : List ℕ → ℕ → ℕ → List ℕ
bytes_at page at len = slice_range page at (at + len)

-- the number in the two bytes from an offset on
unfoldable pub u16_at : List ℕ → ℕ → ℕ
u16_at page at = from_le_bytes w16 (bytes_at page at 2)

-- the number in the four bytes from an offset on
unfoldable pub u32_at : List ℕ → ℕ → ℕ
u32_at page at = from_le_bytes w32 (bytes_at page at 4)

-- the number in the eight bytes from an offset on
unfoldable pub u64_at : List ℕ → ℕ → ℕ
u64_at page at = from_le_bytes w64 (bytes_at page at 8)

-- the bytes from one offset up to another are zero
abbrev pub AreZero : List ℕ → ℕ → ℕ → Type 0
AreZero page from end = (k : ℕ) → from ≤ k → k < end → slice_index page k ≡ 0

-- of a page only these bytes were changed, and its patch has noted it
pub record Writes (span : Span) (was now : List ℕ) (old new : Coverage) : Type 0 where
  pub outside : SameOutside (IsInSpan span) was now
  pub noted : IsNoted old new was now
