use Rattle.std.proofs.Common.{◌≤◌, length, subst, arith}
use Rattle.pm_model.specs.Eval.{Pairs, rows_of}
use Rattle.pm_model.specs.Partitions.{part_of}
use Rattle.pm_model.proofs.CacheKeys.{few_rows, not_full}
use Rattle.pm_model.proofs.plain_map.PlainMap.is_full.Goals as goal

pub returns-then-len-most-clause-full : goal.returns-then-len-most-clause-full
returns-then-len-most-clause-full c =
    let entries = c.self.inside.pairs.entries in
    let shape = c.args.shape in
    let part = part_of c.args.at.now.key shape.partitions in
    let few = subst (λ (pairs : Pairs). rows_of shape.partitions part pairs ≤ length entries) c.self.view_is (few_rows entries shape.partitions part c.len.ensures.ordered) in
    not_full shape c.args.at.now c.args.self.now (length entries) few (omega (arith, c.len.ensures.len))
