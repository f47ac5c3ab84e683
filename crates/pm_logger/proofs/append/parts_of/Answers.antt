use Rattle.std.proofs.Common.{◌≡◌, ◌<◌, ◌++◌, [], ◌∙◌, sym, ap, arith, rules, length, append-nil, take-append-drop}
use Rattle.pm_records.specs.Operations.{operation_bytes, records_bytes}
use Rattle.pm_logger.proofs.OperationBytes.{operation_longer, parts}
use Rattle.pm_logger.proofs.append.parts_of.Goals as goal

pub unreachable-requires : goal.unreachable-requires
unreachable-requires c =
    let short : length c.args.operation.now < 8 = search rules in
    omega (arith, short, ap length c.requires.1.1, operation_longer c.requires.0)

pub returns-clause-line : goal.returns-clause-line
returns-clause-line c spelled is =
    let e : c.args.operation.now ≡ c.in-Some.head.now ++ c.in-Some.records.now = sym (take-append-drop 8 c.args.operation.now) ∙ sym (λ i. c.in-Some.ensures.cases.0 i ++ c.in-Some.ensures.cases.1 i) in
    sym (parts c.operation_head_of.result.0 c.operation_head_of.result.1 c.args.operation.now c.in-Some.head.now c.in-Some.records.now e c.operation_head_of.ensures (search rules) (search rules) spelled [] is.0 (is.1 ∙ sym (append-nil (operation_bytes spelled)))).0

pub returns-clause-records : goal.returns-clause-records
returns-clause-records c spelled is =
    let e : c.args.operation.now ≡ c.in-Some.head.now ++ c.in-Some.records.now = sym (take-append-drop 8 c.args.operation.now) ∙ sym (λ i. c.in-Some.ensures.cases.0 i ++ c.in-Some.ensures.cases.1 i) in
    let p = parts c.operation_head_of.result.0 c.operation_head_of.result.1 c.args.operation.now c.in-Some.head.now c.in-Some.records.now e c.operation_head_of.ensures (search rules) (search rules) spelled [] is.0 (is.1 ∙ sym (append-nil (operation_bytes spelled))) in
    (is.0.records_are, sym p.2 ∙ append-nil (records_bytes spelled.records))
