use Rattle.std.proofs.Common.{◌≡◌, take}
use Rattle.pm_model.proofs.plain_batcher.copies_of.Given as goal

abbrev pub invariant-each : goal.invariant-each
invariant-each l = l.copies.items ≡ take l.line-index l.lines
