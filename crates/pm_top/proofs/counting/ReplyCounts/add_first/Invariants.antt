use Rattle.std.proofs.Common.{◌≡◌, take}
use Rattle.pm_top.specs.ReplyCounts.{with_all}
use Rattle.pm_top.proofs.counting.ReplyCounts.add_first.Given as goal

-- the replies so far are counted
abbrev pub invariant-each : goal.invariant-each
invariant-each l = l.self ≡ with_all l.fn.self (take l.i l.replies.replies)
