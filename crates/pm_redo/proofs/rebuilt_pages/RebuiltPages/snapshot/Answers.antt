use Rattle.std.proofs.Common.{true, ap, ◌∙◌, ◌<◌, length, subst}
use Rattle.pm_types.specs.Ids.{part_of_id}
use Rattle.pm_records.specs.Records.{Snapshot}
use Rattle.pm_redo.specs.PageMaps.{PageMap, TakesRecord}
use Rattle.pm_redo.proofs.Entries.{put_sized}
use Rattle.pm_redo.proofs.Taking.{page_map, takes_snapshot}
use Rattle.pm_redo.proofs.rebuilt_pages.RebuiltPages.snapshot.Goals as goal

pub invariant_of-self-2 : goal.invariant_of-self-2
invariant_of-self-2 c =
    put_sized c.self.inside.shape.page_size c.args.page c.number_of.result c.in_ok-copy.copy c.self.inside.pages.entries c.insert.new.self.entries c.number_of.ensures c.in_ok-insert.ensures.updates.0
    (ap length c.in_ok-copy.ensures.items ∙ c.if-bytes-self.false) c.self.invariant

pub returns-clause-takes : goal.returns-clause-takes
returns-clause-takes c =
    let lt : part_of_id c.args.page < c.self.inside.shape.partitions = subst (λ n. n < c.self.inside.shape.partitions) c.part.ensures c.if-part-self.false in
    let takes = takes_snapshot c.self.inside.shape c.args.page c.number_of.result c.args.bytes.now c.in_ok-copy.copy c.self.inside.pages.entries c.insert.new.self.entries c.number_of.ensures c.in_ok-insert.ensures.updates.0
    lt c.if-bytes-self.false c.in_ok-copy.ensures.items in
    subst (λ (old : PageMap). TakesRecord true old (page_map c.self.inside.shape c.insert.new.self.entries) (Snapshot c.args.page c.args.bytes.now)) c.self.view_is takes
