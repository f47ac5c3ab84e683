-- A call that fails at once has written nothing.
use Rattle.pm_disk_mem.specs.Lent.{history_of_part}
use Rattle.pm_disk_mem.proofs.Recording.{page_unwritten}
use Rattle.pm_disk_mem.proofs.part.MemPartPageWriter.write_page.Goals as goal

pub returns-in_err-begin-clause-writes : goal.returns-in_err-begin-clause-writes
returns-in_err-begin-clause-writes c = page_unwritten (history_of_part c.args.self.now) c.from_residual.result c.args.page c.args.bytes.now c.from_residual.ensures.0
