use Rattle.pm_pages.proofs.Exactly.{HasSeen}
use Rattle.pm_pages.proofs.well_formed.exact.is_exactly.Given as goal

-- what was seen so far, each number once
abbrev pub invariant-each : goal.invariant-each
invariant-each l = HasSeen l.list l.wanted l.seen.items l.number-index
