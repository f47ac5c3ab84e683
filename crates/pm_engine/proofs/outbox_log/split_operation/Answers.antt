use Rattle.std.proofs.Common.{◌∙◌, ◌++◌, ap, arith, length, take, drop, length-append}
use Rattle.pm_records.specs.Operations.{records_bytes}
use Rattle.pm_engine.proofs.OutboxLoops.{headed, records_small, whole_long, after_head, records_front, records_back}
use Rattle.pm_engine.proofs.outbox_log.split_operation.Goals as goal

pub records_len-len-requires : goal.records_len-len-requires
records_len-len-requires c = omega (arith, whole_long c.args.bytes.now c.requires.0 c.requires.1 c.requires.2 c.requires.3)

pub split_at-requires : goal.split_at-requires
split_at-requires c = omega (arith, whole_long c.args.bytes.now c.requires.0 c.requires.1 c.requires.2 c.requires.3)

pub split_at-requires-2 : goal.split_at-requires-2
split_at-requires-2 c =
    let bytes = c.args.bytes.now in
    let o = c.requires.0 in
    let more = c.requires.1 in
    let len = c.records_len-len.ensures o.line (length (records_bytes o.records)) (records_bytes o.records ++ more) (records_small bytes o more c.requires.2 c.requires.3) (headed bytes o more c.requires.2 c.requires.3) in
    omega (arith, len, ap length (c.split_at.ensures.back ∙ after_head bytes o more c.requires.2 c.requires.3), length-append (records_bytes o.records) more)

pub returns-clause-records : goal.returns-clause-records
returns-clause-records c = λ o more is e.
    let bytes = c.args.bytes.now in
    let len = c.records_len-len.ensures o.line (length (records_bytes o.records)) (records_bytes o.records ++ more) (records_small bytes o more is e) (headed bytes o more is e) in
    c.split_at-2.ensures.front ∙ (λ i. take (len i) (c.split_at.ensures.back i)) ∙ records_front bytes o more is e

pub returns-clause-rest : goal.returns-clause-rest
returns-clause-rest c = λ o more is e.
    let bytes = c.args.bytes.now in
    let len = c.records_len-len.ensures o.line (length (records_bytes o.records)) (records_bytes o.records ++ more) (records_small bytes o more is e) (headed bytes o more is e) in
    c.split_at-2.ensures.back ∙ (λ i. drop (len i) (c.split_at.ensures.back i)) ∙ records_back bytes o more is e
