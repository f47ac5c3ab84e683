use Rattle.pm_records.specs.Records.{payload_of}
use Rattle.pm_engine.proofs.restarts.restart_payload.Goals as goal

pub returns-clause-payload : goal.returns-clause-payload
unfolding payload_of
returns-clause-payload c = c.shape_bytes.ensures
