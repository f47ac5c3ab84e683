use Rattle.std.proofs.Common.{arith}
use Rattle.pm_data.proofs.RowsByItem.{length-rows_of}
use Rattle.pm_pages.proofs.RowsFrom.{all_read}
use Rattle.pm_pages.proofs.well_formed.rows.add_rows.Goals as goal

pub returns : goal.returns
returns c =
    let is = c.is_of.ensures.0 c.if-not-is_of.false in
    let few = (c.requires.data_page is).rows.few in
    all_read c.args.id c.args.page.now c.args.rows.now.items c.items.rows.items c.items.item c.items.invariant (omega (arith, few, length-rows_of c.args.page.now, c.items-test.false)) is
