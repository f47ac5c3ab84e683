use Rattle.std.proofs.Common.{◌≡◌, take}
use Rattle.pm_script.specs.Texts.{texts_of}
use Rattle.pm_top.proofs.run.write_replies.Given as goal

-- the texts of the replies so far
abbrev pub invariant-each : goal.invariant-each
invariant-each l = l.into.items ≡ texts_of (take l.i l.replies.replies)
