use Rattle.std.proofs.Common.{ap, ◌∙◌}
use Rattle.std.specs.BTreeMap.{keys}
use Rattle.pm_model.specs.Eval.{rows_among}
use Rattle.pm_model.specs.Partitions.{part_of}
use Rattle.pm_model.proofs.CountedRows.{next_counted}
use Rattle.pm_model.proofs.row_counts.RowCounts.of.Goals as goal

pub each-preserved : goal.each-preserved
each-preserved c =
    let partitions = c.args.partitions in
    let of_is = c.part_of.ensures.part ∙ ap (λ bytes. part_of bytes partitions) c.bytes.ensures.bytes in
    record {
      partitions = c.add.ensures.partitions ∙ c.each.invariant.partitions;
      each = λ part below.
          next_counted c.each.counts c.add.new.self partitions part c.part_of.result (rows_among partitions part (keys c.args.pairs.now)) c.in-Some.at.now c.each.at-iterator c.next.new.self
          c.add.ensures of_is c.in-Some.ensures.steps (c.each.invariant.each part below);
    }
