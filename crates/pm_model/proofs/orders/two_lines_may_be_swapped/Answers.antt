use Rattle.pm_model.proofs.SwappedLines.{swapped}
use Rattle.pm_model.proofs.orders.two_lines_may_be_swapped.Goals as goal

pub returns : goal.returns
returns c = swapped
