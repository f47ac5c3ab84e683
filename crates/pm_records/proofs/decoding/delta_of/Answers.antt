use Rattle.std.proofs.Common.{◌≤◌, length, refl, sym, arith}
use Rattle.std.proofs.lemmas.Bool.{false≢true}
use Rattle.pm_frame.specs.declared.kinds.TheConstants.{DELTA}
use Rattle.pm_records.specs.declared.limits.TheConstants.{PAGE_NAME_LEN}
use Rattle.pm_records.specs.Records.{Delta, payload_of}
use Rattle.pm_records.proofs.PageBytes.{names_page, none-few_delta, none-other_delta, page_spelled}
use Rattle.pm_records.proofs.RecordOf.{record_of-spelled}
use Rattle.pm_records.proofs.decoding.delta_of.Goals as goal

pub returns-in_default : goal.returns-in_default
returns-in_default c = sym (none-few_delta c.args.payload.now c.in_default.ensures.cases)

pub returns-then-not-is_page_delta : goal.returns-then-not-is_page_delta
returns-then-not-is_page_delta c =
    let parts = names_page _ _ _ _ c.in-Some.ensures.cases.0 c.in-Some.ensures.cases.1 c.from_le_bytes.ensures in
    sym (none-other_delta _ _ _ _ parts (λ h. false≢true (c.if-not-is_page_delta.ensures.1 h)))

pub returns : goal.returns
unfolding payload_of
returns c =
    let parts = names_page _ _ _ _ c.in-Some.ensures.cases.0 c.in-Some.ensures.cases.1 c.from_le_bytes.ensures in
    let enough : PAGE_NAME_LEN ≤ length c.args.payload.now = omega (arith, c.in-Some.ensures.cases.2) in
    let spelled = page_spelled _ _ _ _ parts (λ i. (c.type_inv.payload i).fits) enough in
    sym (record_of-spelled DELTA c.args.payload.now _ refl (Delta (record { 0 = c.from_le_bytes.result }) c.in-Some.ranges.now) (c.if-not-is_page_delta.ensures.0 refl) refl spelled)
