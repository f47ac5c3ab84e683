-- The delta of a page that is made of its patch.
use Rattle.std.specs.Prelude.{◌≡◌, ℕ, ◌+◌, ◌-◌, List, [], ◌∷◌, ◌++◌, length, slice_range}
use Rattle.std.specs.Int.{w16, to_le_bytes}
use Rattle.pm_types.specs.declared.spans.Span.{Span}
use Rattle.pm_types.specs.Spans.{Coverage, Covers}
use Rattle.pm_types.specs.Pages.{SameOutside}
use Rattle.pm_types.specs.declared.ranges.TheConstants.{RANGE_HEAD_LEN}
use Rattle.pm_types.specs.DeltaRanges.{applied}

-- a range as it stands in a delta: start, length, and the page's bytes there
abbrev pub range_bytes : List ℕ → Span → List ℕ
range_bytes page span =
    to_le_bytes w16 span.start
    ++ (to_le_bytes w16 (span.end - span.start) ++ slice_range page span.start span.end)

-- these ranges of a page, one after the other
abbrev pub ranges_bytes : List ℕ → List Span → List ℕ
ranges_bytes page [] = []
ranges_bytes page (span ∷ spans) = range_bytes page span ++ ranges_bytes page spans

-- the delta with these ranges of a page
abbrev pub delta_of : List ℕ → List Span → List ℕ
delta_of page spans = length spans ∷ ranges_bytes page spans

-- how many bytes these ranges take, one after the other
abbrev pub ranges_len : List Span → ℕ
ranges_len [] = 0
ranges_len (span ∷ spans) = RANGE_HEAD_LEN + (span.end - span.start) + ranges_len spans

-- how many bytes the delta with these ranges has
abbrev pub delta_len : List Span → ℕ
delta_len spans = 1 + ranges_len spans

-- applied to any page that differs from this one only where the patch covers it, the delta gives this page
abbrev pub GivesPage : List ℕ → Coverage → List ℕ → Type 0
GivesPage delta patch now = (was : List ℕ) → SameOutside (Covers patch) was now → applied delta was ≡ now
