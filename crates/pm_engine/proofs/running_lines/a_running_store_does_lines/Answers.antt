use Rattle.pm_engine.proofs.ConsoleRuns.{has_beside}
use Rattle.pm_engine.proofs.HasRunLines.{rest_has_run, line_unchanged, line_done, line_forced}
use Rattle.pm_engine.proofs.running_lines.a_running_store_does_lines.Goals as goal

pub returns-clause-rest : goal.returns-clause-rest
returns-clause-rest c = λ wanted told store s world runs none. rest_has_run wanted told store s world runs none

pub returns-clause-unchanged : goal.returns-clause-unchanged
returns-clause-unchanged c = λ wanted told from start lines store s world line has same. line_unchanged wanted told from start lines store s world has line same

pub returns-clause-done : goal.returns-clause-done
returns-clause-done c = λ wanted told from start lines store s world line part noted frame pages has made does segments.
    line_done wanted told from start lines store s world has line part noted frame pages made does segments

pub returns-clause-forced : goal.returns-clause-forced
returns-clause-forced c = λ wanted told from start lines store s world has. line_forced wanted told from start lines store s world has

pub returns-clause-beside : goal.returns-clause-beside
returns-clause-beside c = λ wanted from start lines store s world now has same. has_beside wanted store s world now from start lines has same
