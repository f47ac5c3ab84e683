use Rattle.std.proofs.Common.{length, arith}
use Rattle.pm_types.proofs.PageSizeBounds.{page_size_bounds}
use Rattle.pm_btpage.proofs.ItemsByIndex.{length-items_of}
use Rattle.pm_pages.proofs.well_formed.trees.children.Goals as goal

pub overflow_add-result : goal.overflow_add-result
overflow_add-result c = omega (arith, c.count.ensures, length-items_of c.args.page.now, c.requires.items.within, (page_size_bounds (length c.args.page.now) c.requires.size).1)
