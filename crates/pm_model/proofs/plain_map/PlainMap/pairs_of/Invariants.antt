use Rattle.std.proofs.Common.{◌≡◌, ◌++◌}
use Rattle.pm_model.specs.Eval.{pairs_of, pairs_among}
use Rattle.pm_model.proofs.plain_map.PlainMap.pairs_of.Given as goal

-- the pairs so far, and those that are left
abbrev pub invariant-each : goal.invariant-each
invariant-each l = l.pairs.items ++ pairs_among l.cache l.at-iterator ≡ pairs_of l.cache l.self
