use Rattle.std.proofs.Common.{◌∙◌, ap}
use Rattle.std.specs.Int.{w32, from_le_bytes}
use Rattle.pm_frame.proofs.Bytes.{cells}
use Rattle.pm_engine.proofs.OutboxLoops.{payload_said}
use Rattle.pm_engine.proofs.outbox_log.payload_len.Goals as goal

pub returns : goal.returns
returns c = λ kind len more small e. c.from_le_bytes.ensures ∙ ap (λ bytes. from_le_bytes w32 (cells 1 4 bytes)) e ∙ payload_said kind len more small
