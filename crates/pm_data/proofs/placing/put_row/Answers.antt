use Rattle.pm_types.proofs.Changes.{noted_then}
use Rattle.pm_data.proofs.RowsByItem.{low_within}
use Rattle.pm_data.proofs.Insertion.{placed, another_row}
use Rattle.pm_data.proofs.placing.put_row.Goals as goal

pub returns : goal.returns
returns c =
    let was = c.args.page.now in
    let bytes = c.set_bytes.ensures.writes in
    let slot = c.set_slot.ensures.writes in
    let low = c.set_u16.ensures.writes in
    let count = c.raise_count.ensures.writes in
    let is = placed _ _ _ _ _ c.args.row.now c.args.item c.args.start c.requires.below c.requires.slot (low_within was c.requires.page.rows) bytes.outside c.set_bytes.ensures.bytes slot.outside c.set_slot.ensures.slot low.outside c.set_u16.ensures.value count.outside c.raise_count.ensures.count in
    record {
      adds = another_row was c.raise_count.new.page c.args.row.now c.args.item c.args.start c.requires.page c.requires.row c.requires.free c.requires.few c.requires.below c.requires.room c.requires.slot is;
      noted = noted_then _ _ _ _ _ _ bytes.noted (noted_then _ _ _ _ _ _ slot.noted (noted_then _ _ _ _ _ _ low.noted count.noted));
    }
