use Rattle.std.proofs.Common.{arith}
use Rattle.pm_data.proofs.RowsByItem.{fits_means, free_item-le}
use Rattle.pm_data.proofs.placing.insert.Goals as goal

pub put_row-requires-clause-few : goal.put_row-requires-clause-few
put_row-requires-clause-few c = let means = fits_means c.args.page.now _ c.requires.fits in omega (arith, means.0, c.free_item-item.ensures)

pub put_row-requires-clause-slot : goal.put_row-requires-clause-slot
put_row-requires-clause-slot c =
    let means = fits_means c.args.page.now _ c.requires.fits in omega (arith, means.1, c.free_item-item.ensures, c.get_u16.ensures, free_item-le c.args.page.now)

pub overflow_cast-result : goal.overflow_cast-result
overflow_cast-result c = let means = fits_means c.args.page.now _ c.requires.fits in omega (arith, means.0, c.free_item-item.ensures)
