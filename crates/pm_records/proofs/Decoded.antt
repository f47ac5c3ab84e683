-- What is decoded is a record of its kind, spelled so.
use Rattle.std.proofs.Common.{◌≡◌, ℕ, List, Result, Ok, Err, sym}
use Rattle.std.specs.Prelude.{IfOk}
use Rattle.pm_records.specs.declared.record.BadPayload.{BadPayload}
use Rattle.pm_records.specs.declared.record.LogRecord.{LogRecord}
use Rattle.pm_records.specs.Records.{IsRecord, kind_of, payload_of, record_of}
use Rattle.pm_records.specs.Views.{record_view, record_read}
use Rattle.pm_records.proofs.RecordOf.{record_of-some}

pub decoded-fits : (kind : ℕ) (payload : List ℕ) (r : Result LogRecord BadPayload) → record_read r ≡ record_of kind payload
    → IfOk r (λ found. IsRecord (record_view found))
decoded-fits kind payload (Ok found) e = (record_of-some kind payload (record_view found) (sym e)).0
decoded-fits kind payload (Err refusal) e = tt

pub decoded-kind : (kind : ℕ) (payload : List ℕ) (r : Result LogRecord BadPayload) → record_read r ≡ record_of kind payload
    → IfOk r (λ found. kind ≡ kind_of (record_view found))
decoded-kind kind payload (Ok found) e = (record_of-some kind payload (record_view found) (sym e)).1
decoded-kind kind payload (Err refusal) e = tt

pub decoded-spelled : (kind : ℕ) (payload : List ℕ) (r : Result LogRecord BadPayload)
    → record_read r ≡ record_of kind payload → IfOk r (λ found. payload ≡ payload_of (record_view found))
decoded-spelled kind payload (Ok found) e = (record_of-some kind payload (record_view found) (sym e)).2
decoded-spelled kind payload (Err refusal) e = tt
