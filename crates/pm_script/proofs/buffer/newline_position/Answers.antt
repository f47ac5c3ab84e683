use Rattle.pm_script.proofs.Newlines.{first_newline}
use Rattle.pm_script.proofs.buffer.newline_position.Goals as goal

pub returns : goal.returns
returns c = first_newline c.args.bytes.now c.memchr.result c.memchr.ensures
