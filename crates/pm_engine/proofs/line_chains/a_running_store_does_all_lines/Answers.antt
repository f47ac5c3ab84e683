use Rattle.pm_engine.proofs.LineChains.{all_done, all_few}
use Rattle.pm_engine.proofs.line_chains.a_running_store_does_all_lines.Goals as goal

pub returns-clause-can : goal.returns-clause-can
returns-clause-can c = λ wanted told from start lines more store s world frames pages logged has steps segments. (all_done wanted told from start more lines store s world frames pages logged has steps segments).0

pub returns-clause-done : goal.returns-clause-done
returns-clause-done c = λ wanted told from start lines more store s world frames pages logged has steps segments. (all_done wanted told from start more lines store s world frames pages logged has steps segments).1

pub returns-clause-few : goal.returns-clause-few
returns-clause-few c = λ store more frames pages logged steps. all_few more store frames pages logged steps
