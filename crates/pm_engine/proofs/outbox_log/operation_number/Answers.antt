use Rattle.std.proofs.Common.{◌∙◌, ap}
use Rattle.std.specs.Int.{w32, from_le_bytes}
use Rattle.pm_frame.proofs.Bytes.{cells}
use Rattle.pm_engine.proofs.OutboxLoops.{line_said}
use Rattle.pm_engine.proofs.outbox_log.operation_number.Goals as goal

pub returns : goal.returns
returns c = λ line len more small e. c.from_le_bytes.ensures ∙ ap (λ bytes. from_le_bytes w32 (cells 0 4 bytes)) e ∙ line_said line len more small
