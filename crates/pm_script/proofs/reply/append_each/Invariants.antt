use Rattle.std.proofs.Common.{◌≡◌, ◌++◌, take}
use Rattle.std.specs.List.{flat_map}
use Rattle.pm_script.specs.Texts.{pair_text}
use Rattle.pm_script.proofs.reply.append_each.Given as goal

-- the lines of the pairs so far
abbrev pub invariant-each : goal.invariant-each
invariant-each l = l.into.items ≡ l.fn.into.items ++ flat_map pair_text (take l.key-index l.pairs)
