-- What contracts see of the log writer.
use Rattle.std.specs.Prelude.{ℕ, List}
use Rattle.pm_disk.specs.Moments.{History}
use Rattle.pm_segments.specs.Ends.{LogEnd}
use Rattle.pm_logger.specs.Writers.{Writer, writer}
use Rattle.pm_logger.specs.declared.inbox.Inbox.{Inbox}
use Rattle.pm_logger.specs.declared.logger.Logger.{Logger}

-- its ends of the rings, each at its worker's place
abbrev pub inboxes : Logger → List Inbox
inboxes logger = logger.rings.items

-- the lines noted
abbrev pub noted_lines : Logger → List ℕ
noted_lines logger = logger.tally.lines

-- how many operations were appended since it forced the log
abbrev pub since_forced : Logger → ℕ
since_forced logger = logger.tally.since

-- what it knows besides its rings
abbrev pub writer_of : History → LogEnd → Logger → Writer
writer_of history log logger = writer history log logger.tally
