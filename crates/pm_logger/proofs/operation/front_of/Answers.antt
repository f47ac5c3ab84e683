use Rattle.std.proofs.Common.{◌≡◌, ◌<◌, ◌++◌, Bool, false, sym, ◌∙◌, rules, arith, length, take-append-drop}
use Rattle.std.specs.Prelude.{IsTrue}
use Rattle.pm_logger.proofs.OperationBytes.{headless, begun, whole, too_long, no_records}
use Rattle.pm_logger.proofs.operation.front_of.Goals as goal

not_true : (b : Bool) → b ≡ false → IsTrue b → ⊥
not_true b is_false is_true = absurd (cc)

pub returns-in_default : goal.returns-in_default
returns-in_default c =
    let short : length c.args.bytes.now < 8 = search rules in
    (omega (arith, short), headless c.args.bytes.now short)

pub returns-then-len : goal.returns-then-len
returns-then-len c =
    let e : c.args.bytes.now ≡ c.in-Some.head.now ++ c.in-Some.after.now = sym (take-append-drop 8 c.args.bytes.now) ∙ sym (λ i. c.in-Some.ensures.cases.0 i ++ c.in-Some.ensures.cases.1 i) in
    too_long c.operation_head_of-len.result.0 c.operation_head_of-len.result.1 c.args.bytes.now c.in-Some.head.now c.in-Some.after.now e c.operation_head_of-len.ensures (search rules) (search rules) (omega (arith, c.if-len.true))

pub returns-then-after-len : goal.returns-then-after-len
returns-then-after-len c =
    let e : c.args.bytes.now ≡ c.in-Some.head.now ++ c.in-Some.after.now = sym (take-append-drop 8 c.args.bytes.now) ∙ sym (λ i. c.in-Some.ensures.cases.0 i ++ c.in-Some.ensures.cases.1 i) in
    (omega (arith, c.if-len.false, c.if-after-len.true, c.in-Some.ensures.cases.2), begun c.operation_head_of-len.result.0 c.operation_head_of-len.result.1 c.args.bytes.now c.in-Some.head.now c.in-Some.after.now e c.operation_head_of-len.ensures (search rules) (search rules) c.if-after-len.true)

pub returns-then-not-are_records : goal.returns-then-not-are_records
returns-then-not-are_records c =
    let e : c.args.bytes.now ≡ c.in-Some.head.now ++ c.in-Some.after.now = sym (take-append-drop 8 c.args.bytes.now) ∙ sym (λ i. c.in-Some.ensures.cases.0 i ++ c.in-Some.ensures.cases.1 i) in
    no_records c.operation_head_of-len.result.0 c.operation_head_of-len.result.1 c.args.bytes.now c.in-Some.head.now c.in-Some.after.now e c.operation_head_of-len.ensures (search rules) (search rules) c.if-after-len.false
    (λ records. not_true c.are_records.result c.if-not-are_records.true (c.are_records.ensures.1 records))

pub returns : goal.returns
returns c =
    let e : c.args.bytes.now ≡ c.in-Some.head.now ++ c.in-Some.after.now = sym (take-append-drop 8 c.args.bytes.now) ∙ sym (λ i. c.in-Some.ensures.cases.0 i ++ c.in-Some.ensures.cases.1 i) in
    whole c.operation_head_of-len.result.0 c.operation_head_of-len.result.1 c.args.bytes.now c.in-Some.head.now c.in-Some.after.now e c.operation_head_of-len.ensures (search rules) (search rules) c.if-after-len.false (c.are_records.ensures.0 c.if-not-are_records.false) (omega (arith, c.if-len.false))
