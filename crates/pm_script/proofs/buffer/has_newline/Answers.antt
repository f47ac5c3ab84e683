use Rattle.std.proofs.Common.{◌∙◌}
use Rattle.pm_script.proofs.Newlines.{found_broken}
use Rattle.pm_script.proofs.buffer.has_newline.Goals as goal

pub returns : goal.returns
returns c = c.is_some.ensures ∙ found_broken c.args.bytes.now c.newline_position.result c.newline_position.ensures
