use Rattle.pm_engine.proofs.LineChains.{runs_renamed, lines_renamed}
use Rattle.pm_engine.proofs.line_chains.logged_pages_have_no_order.Goals as goal

pub returns-clause-runs : goal.returns-clause-runs
returns-clause-runs c = λ wanted told store s world names runs same once. runs_renamed wanted told store s world names runs same once

pub returns-clause-done : goal.returns-clause-done
returns-clause-done c = λ wanted told from start lines store s world names has same once. lines_renamed wanted told from start lines store s world names has same once
