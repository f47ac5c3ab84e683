use Rattle.pm_script.proofs.FieldTexts.{field_reads_back}
use Rattle.pm_script.proofs.reply.fields_read_back.Goals as goal

pub returns : goal.returns
returns c = field_reads_back
