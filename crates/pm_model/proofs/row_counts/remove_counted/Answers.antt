use Rattle.std.proofs.Common.{ℕ, ◌<◌, not, Option, List, ap, sym, ◌∙◌, subst}
use Rattle.std.specs.Option.{is_some}
use Rattle.std.specs.BTreeMap.{keys}
use Rattle.std.specs.Map.{keys_of}
use Rattle.pm_model.specs.declared.cache_key.CacheKey.{CacheKey}
use Rattle.pm_model.specs.declared.row_counts.RowCounts.{RowCounts}
use Rattle.pm_model.specs.Counts.{count_of, AreCountsOf, AreKept}
use Rattle.pm_model.specs.Partitions.{part_of}
use Rattle.pm_model.proofs.CountedRows.{counts_remove, some_rows}
use Rattle.pm_model.proofs.row_counts.remove_counted.Goals as goal

pub take-requires-clause-some : goal.take-requires-clause-some
take-requires-clause-some c =
    let counts = c.in-Some.counts in
    let kept = subst (λ (kept : Option RowCounts). AreKept kept (keys c.args.pairs.now)) c.in-Some.is c.requires in
    let of_is = c.part_of.ensures.part ∙ ap (λ bytes. part_of bytes counts.partitions) c.bytes.ensures.bytes in
    let there = sym (ap is_some c.remove.ensures.value) ∙ c.is_none.ensures ∙ ap not c.if-is_none.false in
    let below = subst (λ (of : ℕ). of < counts.partitions) of_is c.part_of.ensures.below in
    subst (λ (of : ℕ). 0 < count_of counts of) (sym of_is) (some_rows counts c.args.at.now c.args.pairs.now.entries kept below there)

pub returns-in-Some-clause-counts : goal.returns-in-Some-clause-counts
returns-in-Some-clause-counts c =
    let counts = c.in-Some.counts in
    let kept = subst (λ (kept : Option RowCounts). AreKept kept (keys c.args.pairs.now)) c.in-Some.is c.requires in
    let of_is = c.part_of.ensures.part ∙ ap (λ bytes. part_of bytes counts.partitions) c.bytes.ensures.bytes in
    let there = sym (ap is_some c.remove.ensures.value) ∙ c.is_none.ensures ∙ ap not c.if-is_none.false in
    let left = counts_remove counts c.take.new.self c.part_of.result c.args.at.now c.args.pairs.now.entries kept c.take.ensures of_is there in
    subst (λ (es : List (CacheKey × List ℕ)). AreCountsOf c.take.new.self (keys_of es)) (sym c.remove.ensures.entries) left
