use Rattle.std.proofs.Common.{arith, ap}
use Rattle.pm_types.proofs.PageSizeBounds.{page_size_bounds}
use Rattle.pm_redo.specs.PageMaps.{PageMap}
use Rattle.pm_redo.proofs.rebuilt_pages.RebuiltPages.read.Goals as goal

pub read_page-requires-clause-short : goal.read_page-requires-clause-short
read_page-requires-clause-short g c =
    let bounds = page_size_bounds c.self.inside.shape.page_size c.self.invariant.may in
    omega (arith, bounds.1, c.requires.sized, ap (λ (p : PageMap). p.shape.page_size) c.self.view_is)
