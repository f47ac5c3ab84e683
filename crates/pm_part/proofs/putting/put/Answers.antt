use Rattle.std.proofs.lemmas.Result.{IfOk-weaker}
use Rattle.pm_part.proofs.putting.put.Goals as goal

pub returns-clause-puts : goal.returns-clause-puts
returns-clause-puts g c = IfOk-weaker c.put_row.result _ _ (λ done puts t shape for. puts t shape for c.args.value.now c.write_row-len.ensures.row) c.put_row.ensures.puts
