use Rattle.std.proofs.Common.{◌∙◌, ◌++◌, ℕ, List, ap, arith, length, take, drop, get_or, length-append}
use Rattle.std.proofs.lemmas.List.{get_or-take}
use Rattle.pm_engine.proofs.OutboxLoops.{record_headed, payload_small, record_long, after_record_head, kind_first, payload_front, payload_back}
use Rattle.pm_engine.proofs.outbox_log.split_record.Goals as goal

pub payload_len-len-requires : goal.payload_len-len-requires
payload_len-len-requires c = omega (arith, record_long c.args.bytes.now c.requires.0 c.requires.1 c.requires.2 c.requires.3)

pub split_at-requires : goal.split_at-requires
split_at-requires c = omega (arith, record_long c.args.bytes.now c.requires.0 c.requires.1 c.requires.2 c.requires.3)

pub split_at-requires-2 : goal.split_at-requires-2
split_at-requires-2 c =
    let bytes = c.args.bytes.now in
    let f = c.requires.0 in
    let more = c.requires.1 in
    let len = c.payload_len-len.ensures f.kind (length f.payload) (f.payload ++ more) (payload_small bytes f more c.requires.2 c.requires.3) (record_headed bytes f more c.requires.2 c.requires.3) in
    omega (arith, len, ap length (c.split_at.ensures.back ∙ after_record_head bytes f more c.requires.2 c.requires.3), length-append f.payload more)

pub returns-clause-kind : goal.returns-clause-kind
returns-clause-kind c = λ f more is e.
    ap (λ (bs : List ℕ). get_or bs 0 0) c.split_at.ensures.front ∙ get_or-take 5 c.args.bytes.now 0 0 (omega arith) ∙ kind_first c.args.bytes.now f more is e

pub returns-clause-payload : goal.returns-clause-payload
returns-clause-payload c = λ f more is e.
    let bytes = c.args.bytes.now in
    let len = c.payload_len-len.ensures f.kind (length f.payload) (f.payload ++ more) (payload_small bytes f more is e) (record_headed bytes f more is e) in
    c.split_at-2.ensures.front ∙ (λ i. take (len i) (c.split_at.ensures.back i)) ∙ payload_front bytes f more is e

pub returns-clause-rest : goal.returns-clause-rest
returns-clause-rest c = λ f more is e.
    let bytes = c.args.bytes.now in
    let len = c.payload_len-len.ensures f.kind (length f.payload) (f.payload ++ more) (payload_small bytes f more is e) (record_headed bytes f more is e) in
    c.split_at-2.ensures.back ∙ (λ i. drop (len i) (c.split_at.ensures.back i)) ∙ payload_back bytes f more is e
