use Rattle.std.proofs.Common.{◌≡◌, ◌+◌, ◌≤◌, length, refl, sym, arith}
use Rattle.std.proofs.lemmas.Bool.{false≢true}
use Rattle.pm_frame.specs.declared.kinds.TheConstants.{LOGICAL}
use Rattle.pm_records.specs.declared.limits.TheConstants.{LOGICAL_HEAD_LEN}
use Rattle.pm_records.proofs.LogicalBytes.{splits, none-few, none-other_length, none-other_fields, logical_spelled}
use Rattle.pm_records.proofs.RecordOf.{record_of-spelled}
use Rattle.pm_records.proofs.decoding.logical_of.Goals as goal

pub returns-in_default : goal.returns-in_default
returns-in_default c = sym (none-few c.args.payload.now c.in_default.ensures.cases)

pub returns-then-rest-key_len : goal.returns-then-rest-key_len
returns-then-rest-key_len c =
    let parts = splits _ _ _ _ _ c.in-Some.ensures.cases.0 c.in-Some.ensures.cases.1 c.from-key_len.ensures c.from_le_bytes-value_len.ensures in
    sym (none-other_length _ _ _ _ _ parts (λ e. omega (arith, e, c.if-rest-key_len.true)))

pub returns-then-not-is_logical : goal.returns-then-not-is_logical
returns-then-not-is_logical c =
    let parts = splits _ _ _ _ _ c.in-Some.ensures.cases.0 c.in-Some.ensures.cases.1 c.from-key_len.ensures c.from_le_bytes-value_len.ensures in
    sym (none-other_fields _ _ _ _ _ _ _ parts c.split_at.ensures.front c.split_at.ensures.back
    (λ h. false≢true (c.if-not-is_logical.ensures.1 h)))

pub returns : goal.returns
returns c =
    let parts = splits _ _ _ _ _ c.in-Some.ensures.cases.0 c.in-Some.ensures.cases.1 c.from-key_len.ensures c.from_le_bytes-value_len.ensures in
    let enough : LOGICAL_HEAD_LEN ≤ length c.args.payload.now = omega (arith, c.in-Some.ensures.cases.2) in
    let long : length c.in-Some.rest.now ≡ c.from-key_len.result + c.from_le_bytes-value_len.result = omega (arith, c.if-rest-key_len.false) in
    let spelled = logical_spelled _ _ _ _ _ _ _ parts (λ i. (c.type_inv.payload i).fits) enough long c.split_at.ensures.front c.split_at.ensures.back in
    sym (record_of-spelled LOGICAL c.args.payload.now _ refl _ (c.if-not-is_logical.ensures.0 refl) refl spelled)
