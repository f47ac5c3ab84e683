use Rattle.std.proofs.Common.{length, refl, sym, ap}
use Rattle.std.proofs.lemmas.Bool.{eqb-true, eqb-false}
use Rattle.std.proofs.lemmas.List.{nil_from_length}
use Rattle.pm_frame.specs.declared.kinds.TheConstants.{SEAL}
use Rattle.pm_records.specs.Records.{Seal, payload_of}
use Rattle.pm_records.proofs.OtherBytes.{none-seal}
use Rattle.pm_records.proofs.RecordOf.{record_of-spelled}
use Rattle.pm_records.proofs.decoding.seal_of.Goals as goal

pub returns-then-not-is_empty : goal.returns-then-not-is_empty
returns-then-not-is_empty c =
    sym (none-seal c.args.payload.now (λ e. eqb-false (length c.args.payload.now) 0 (sym c.if-not-is_empty.ensures) (ap length e)))

pub returns : goal.returns
unfolding payload_of
returns c =
    let empty = nil_from_length c.args.payload.now (eqb-true (length c.args.payload.now) 0 (sym c.if-not-is_empty.ensures)) in
    sym (record_of-spelled SEAL c.args.payload.now _ refl Seal tt refl empty)
