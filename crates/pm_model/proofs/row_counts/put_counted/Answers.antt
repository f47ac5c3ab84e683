use Rattle.std.proofs.Common.{ℕ, not, Option, List, ap, sym, ◌∙◌, subst}
use Rattle.std.specs.BTreeMap.{keys}
use Rattle.std.specs.Map.{keys_of}
use Rattle.pm_model.specs.declared.cache_key.CacheKey.{CacheKey}
use Rattle.pm_model.specs.declared.row_counts.RowCounts.{RowCounts}
use Rattle.pm_model.specs.Counts.{AreCountsOf, AreKept}
use Rattle.pm_model.specs.Partitions.{part_of}
use Rattle.pm_model.proofs.CountedRows.{counts_insert}
use Rattle.pm_model.proofs.row_counts.put_counted.Goals as goal

pub returns-then-branch-clause-counts : goal.returns-then-branch-clause-counts
returns-then-branch-clause-counts c =
    let done = c.in_ok-insert-2.ensures in
    let counts = c.in-Some.counts in
    let kept = subst (λ (kept : Option RowCounts). AreKept kept (keys c.args.pairs.now)) c.in-Some.is c.requires in
    let of_is = c.part_of-part.ensures.part ∙ ap (λ bytes. part_of bytes counts.partitions) c.bytes.ensures.bytes in
    let absent = done.new ∙ ap not c.if-branch.true in
    let put = counts_insert counts c.add.new.self c.part_of-part.result c.args.at c.args.value c.args.pairs.now.entries kept c.add.ensures of_is absent in
    subst (λ (es : List (CacheKey × List ℕ)). AreCountsOf c.add.new.self (keys_of es)) (sym done.entries) put
