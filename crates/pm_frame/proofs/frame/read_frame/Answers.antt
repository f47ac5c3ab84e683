use Rattle.std.proofs.Common.{◌≡◌, ◌+◌, ◌-◌, ◌≤◌, ◌<◌, drop, take, length, refl, subst, sym, ap, ◌∙◌, arith}
use Rattle.std.proofs.lemmas.Bool.{false≢true}
use Rattle.std.specs.Int.{w32, from_le_bytes}
use Rattle.std.proofs.lemmas.List.{take_rest, length-drop}
use Rattle.pm_frame.specs.declared.limits.TheConstants.{HEAD_LEN, SUM_LEN}
use Rattle.pm_frame.specs.Crc.{crc_of}
use Rattle.pm_frame.specs.Frames.{IsHead}
use Rattle.pm_frame.specs.Views.{frame_in}
use Rattle.pm_frame.proofs.FrameAt.{frame_at-none, found-spelled}
use Rattle.pm_frame.proofs.FrameRead.{Begins, begins, none-few_for_head, none-other_head, none-few_for_payload, none-few_for_sum, none-other_sum, read_spelled}
use Rattle.pm_frame.proofs.frame.read_frame.Goals as goal

pub returns-in_err-front-clause-frame : goal.returns-in_err-front-clause-frame
returns-in_err-front-clause-frame c =
    ap frame_in c.from_residual.ensures ∙ sym (frame_at-none _ _ (none-few_for_head _ c.args.bytes.now c.in_err-front.ensures.cases))

pub returns-in_err-front-clause-read : goal.returns-in_err-front-clause-read
returns-in_err-front-clause-read c = found-spelled _ _ _ (returns-in_err-front-clause-frame c)

pub returns-then-not-is_of-clause-frame : goal.returns-then-not-is_of-clause-frame
returns-then-not-is_of-clause-frame c =
    let head = begins c.args.bytes.now _ _ _ _ c.in_ok-front.ensures.cases.0 c.of-head.ensures (omega arith) (omega arith) (omega arith) in
    sym (frame_at-none _ _ (none-other_head c.args.place _ _ _ _ head (λ h. false≢true (c.if-not-is_of.ensures.1 h))))

pub returns-then-not-is_of-clause-read : goal.returns-then-not-is_of-clause-read
returns-then-not-is_of-clause-read c = found-spelled _ _ _ (returns-then-not-is_of-clause-frame c)

pub returns-in_err-summed-clause-frame : goal.returns-in_err-summed-clause-frame
returns-in_err-summed-clause-frame c =
    let head = begins c.args.bytes.now _ _ _ _ c.in_ok-front.ensures.cases.0 c.of-head.ensures (omega arith) (omega arith) (omega arith) in
    ap frame_in c.from_residual-in_err-summed.ensures ∙ sym (frame_at-none _ _ (none-few_for_payload c.args.place _ _ _ _ head c.in_err-summed.ensures.cases))

pub returns-in_err-summed-clause-read : goal.returns-in_err-summed-clause-read
returns-in_err-summed-clause-read c = found-spelled _ _ _ (returns-in_err-summed-clause-frame c)

pub returns-in_err-stored-clause-frame : goal.returns-in_err-stored-clause-frame
returns-in_err-stored-clause-frame c =
    let head = begins c.args.bytes.now _ _ _ _ c.in_ok-front.ensures.cases.0 c.of-head.ensures (omega arith) (omega arith) (omega arith) in
    let few : length c.args.bytes.now < HEAD_LEN + c.of-head.result.payload_len + SUM_LEN =
    omega (arith, c.in_err-stored.ensures.cases, c.in_ok-summed.ensures.cases.4)
    in
    ap frame_in c.from_residual-in_err-stored.ensures ∙ sym (frame_at-none _ _ (none-few_for_sum c.args.place _ _ _ _ head few))

pub returns-in_err-stored-clause-read : goal.returns-in_err-stored-clause-read
returns-in_err-stored-clause-read c = found-spelled _ _ _ (returns-in_err-stored-clause-frame c)

pub returns-then-from_le_bytes-sum-clause-frame : goal.returns-then-from_le_bytes-sum-clause-frame
returns-then-from_le_bytes-sum-clause-frame c =
    let head = begins c.args.bytes.now _ _ _ _ c.in_ok-front.ensures.cases.0 c.of-head.ensures (omega arith) (omega arith) (omega arith) in
    let stored = c.in_ok-stored.ensures.cases.0 ∙ ap (take SUM_LEN) c.in_ok-summed.ensures.cases.2 in
    let other : from_le_bytes w32 c.in_ok-stored.stored.now ≡ crc_of c.in_ok-summed.summed.now → ⊥ =
    λ e. omega (arith, e, c.from_le_bytes.ensures, c.sum.ensures, c.if-from_le_bytes-sum.true)
    in
    sym (frame_at-none _ _ (none-other_sum c.args.place _ _ _ _ _ _ head c.in_ok-summed.ensures.cases.1 stored other))

pub returns-then-from_le_bytes-sum-clause-read : goal.returns-then-from_le_bytes-sum-clause-read
returns-then-from_le_bytes-sum-clause-read c = found-spelled _ _ _ (returns-then-from_le_bytes-sum-clause-frame c)

pub returns-clause-spelled : goal.returns-clause-spelled
returns-clause-spelled c =
    let bytes = c.args.bytes.now in
    let kind = c.of-head.result.kind in
    let len = c.of-head.result.payload_len in
    let summed = c.in_ok-summed.summed.now in
    let at : c.of-head.result.place ≡ c.args.place = (c.if-not-is_of.ensures.0 refl).0 in
    let head = begins bytes _ _ _ _ c.in_ok-front.ensures.cases.0 c.of-head.ensures (omega arith) (omega arith) (omega arith) in
    let here = subst (λ place. Begins bytes kind place len) at head in
    let stored = c.in_ok-stored.ensures.cases.0 ∙ ap (take SUM_LEN) c.in_ok-summed.ensures.cases.2 in
    let right : from_le_bytes w32 c.in_ok-stored.stored.now ≡ crc_of summed =
    omega (arith, c.from_le_bytes.ensures, c.sum.ensures, c.if-from_le_bytes-sum.false)
    in
    let enough : HEAD_LEN + len + SUM_LEN ≤ length bytes = omega (arith, c.in_ok-stored.ensures.cases.2, c.in_ok-summed.ensures.cases.4) in
    read_spelled c.args.place bytes kind len summed c.in_ok-stored.stored.now _
    (λ i. (c.type_inv.bytes i).fits) here enough c.in_ok-summed.ensures.cases.1 stored right (take_rest summed HEAD_LEN)

pub returns-clause-frame : goal.returns-clause-frame
returns-clause-frame c =
    let kind = c.of-head.result.kind in
    let summed = c.in_ok-summed.summed.now in
    let payload = take (length summed - HEAD_LEN) (drop HEAD_LEN summed) in
    let count : length payload ≡ c.of-head.result.payload_len =
    omega (arith, ap length (take_rest summed HEAD_LEN), length-drop HEAD_LEN summed, c.in_ok-summed.ensures.cases.3)
    in
    let fits = subst (IsHead c.args.place kind) (sym count) (c.if-not-is_of.ensures.0 refl).1 in
    sym (found-spelled c.args.place c.args.bytes.now _ refl (record { kind = kind; payload = payload }) _ fits (returns-clause-spelled c))

pub returns-clause-read : goal.returns-clause-read
returns-clause-read c = found-spelled _ _ _ (returns-clause-frame c)
