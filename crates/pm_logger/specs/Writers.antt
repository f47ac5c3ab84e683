-- What the log writer knows besides its rings.
use Rattle.std.specs.Prelude.{ℕ, List}
use Rattle.pm_disk.specs.Moments.{History}
use Rattle.pm_segments.specs.Ends.{LogEnd}

-- The lines noted, and how many operations were appended since the log was forced.
pub record Counts : Type 0 where
  pub lines : List ℕ
  pub since : ℕ

-- What the device tells of its past, the log's end, and what was counted.
pub record Writer : Type 1 where
  pub history : History
  pub log : LogEnd
  pub lines : List ℕ
  pub since : ℕ

-- these put together
abbrev pub writer : History → LogEnd → Counts → Writer
writer history log counts =
    record { history = history; log = log; lines = counts.lines; since = counts.since }
