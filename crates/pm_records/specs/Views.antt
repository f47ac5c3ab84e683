-- What contracts see of records.
use Rattle.std.specs.Prelude.{Option, Some, None, Result, Ok, Err}
use Rattle.pm_records.specs.declared.record.BadPayload.{BadPayload}
use Rattle.pm_records.specs.declared.record.LogRecord.{LogRecord}
use Rattle.pm_records.specs.declared.record.LogRecord.TheVariants as log
use Rattle.pm_records.specs.Records.{Record, Logical, Snapshot, Delta, CpBegin, Restart, Seal}

-- what a record says
abbrev pub record_view : LogRecord → Record
record_view (log.Logical op cache key value) = Logical op cache key.now value.now
record_view (log.Snapshot page bytes) = Snapshot page bytes.now
record_view (log.Delta page ranges) = Delta page ranges.now
record_view (log.CpBegin number replay) = CpBegin number replay
record_view (log.Restart shape) = Restart shape
record_view log.Seal = Seal

-- the record in an answer
abbrev pub record_read : Result LogRecord BadPayload → Option Record
record_read (Ok rec) = Some (record_view rec)
record_read (Err refusal) = None
