use Rattle.pm_engine.proofs.RunningOperations.{store_append_goes, store_append_runs}
use Rattle.pm_engine.proofs.running.a_running_store_may_append.Goals as goal

pub returns-clause-can : goal.returns-clause-can
returns-clause-can c = λ wanted told store before after s world frames pages logged runs says segments.
    store_append_goes wanted told store before after s world runs frames pages logged says segments

pub returns-clause-runs : goal.returns-clause-runs
returns-clause-runs c = λ wanted told store before after s world frames pages logged runs says segments.
    store_append_runs wanted told store before after s world runs frames pages logged says segments
