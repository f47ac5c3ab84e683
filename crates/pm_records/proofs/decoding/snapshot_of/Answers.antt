use Rattle.std.proofs.Common.{◌≤◌, length, refl, sym, arith}
use Rattle.std.proofs.lemmas.Bool.{false≢true}
use Rattle.pm_frame.specs.declared.kinds.TheConstants.{SNAPSHOT}
use Rattle.pm_records.specs.declared.limits.TheConstants.{PAGE_NAME_LEN}
use Rattle.pm_records.specs.Records.{Snapshot, payload_of}
use Rattle.pm_records.proofs.PageBytes.{names_page, none-few_snapshot, none-other_snapshot, page_spelled}
use Rattle.pm_records.proofs.RecordOf.{record_of-spelled}
use Rattle.pm_records.proofs.decoding.snapshot_of.Goals as goal

pub returns-in_default : goal.returns-in_default
returns-in_default c = sym (none-few_snapshot c.args.payload.now c.in_default.ensures.cases)

pub returns-then-not-is_snapshot : goal.returns-then-not-is_snapshot
returns-then-not-is_snapshot c =
    let parts = names_page _ _ _ _ c.in-Some.ensures.cases.0 c.in-Some.ensures.cases.1 c.from_le_bytes.ensures in
    sym (none-other_snapshot _ _ _ _ parts (λ h. false≢true (c.if-not-is_snapshot.ensures.1 h)))

pub returns : goal.returns
unfolding payload_of
returns c =
    let parts = names_page _ _ _ _ c.in-Some.ensures.cases.0 c.in-Some.ensures.cases.1 c.from_le_bytes.ensures in
    let enough : PAGE_NAME_LEN ≤ length c.args.payload.now = omega (arith, c.in-Some.ensures.cases.2) in
    let spelled = page_spelled _ _ _ _ parts (λ i. (c.type_inv.payload i).fits) enough in
    sym (record_of-spelled SNAPSHOT c.args.payload.now _ refl (Snapshot (record { 0 = c.from_le_bytes.result }) c.in-Some.bytes.now) (c.if-not-is_snapshot.ensures.0 refl) refl spelled)
