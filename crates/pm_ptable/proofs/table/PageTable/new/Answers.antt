use Rattle.pm_ptable.proofs.Rows.{map_of-resized}
use Rattle.pm_ptable.proofs.table.PageTable.new.Goals as goal

pub returns-clause-entries : goal.returns-clause-entries
returns-clause-entries c = map_of-resized _ _ _ _ c.in_ok-slots.ensures.items c.in_ok-resize.ensures.items
