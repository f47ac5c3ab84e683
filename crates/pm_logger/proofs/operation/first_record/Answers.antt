use Rattle.std.proofs.Common.{◌≡◌, ◌++◌, ℕ, Bool, false, sym, ◌∙◌, subst, rules, arith, take-append-drop}
use Rattle.std.specs.Prelude.{IsTrue}
use Rattle.pm_records.specs.Operations.{MayBeLogged}
use Rattle.pm_logger.proofs.RecordBytes.{too_short, no_record, record_from}
use Rattle.pm_logger.proofs.operation.first_record.Goals as goal

not_true : (b : Bool) → b ≡ false → IsTrue b → ⊥
not_true b is_false is_true = absurd (cc)

pub returns-in_default-clause-none : goal.returns-in_default-clause-none
returns-in_default-clause-none c = too_short c.args.bytes.now (search rules)

pub returns-then-not-is_logged-clause-none : goal.returns-then-not-is_logged-clause-none
returns-then-not-is_logged-clause-none c =
    let len = c.record_head_of-kind.result.1 in
    let e : c.args.bytes.now ≡ c.in-Some.head.now ++ c.in-Some.after.now = sym (take-append-drop 5 c.args.bytes.now) ∙ sym (λ i. c.in-Some.ensures.cases.0 i ++ c.in-Some.ensures.cases.1 i) in
    no_record c.record_head_of-kind.result.0 len c.args.bytes.now _ _ e c.record_head_of-kind.ensures (search rules)
    (λ f is_f k l le. not_true c.is_logged.result c.if-not-is_logged.true (c.is_logged.ensures.1 (subst (λ (p : ℕ × ℕ). MayBeLogged p.0 p.1) (λ i. (sym k i, sym l i)) is_f)))

pub returns-then-after-len-clause-none : goal.returns-then-after-len-clause-none
returns-then-after-len-clause-none c =
    let len = c.record_head_of-kind.result.1 in
    let e : c.args.bytes.now ≡ c.in-Some.head.now ++ c.in-Some.after.now = sym (take-append-drop 5 c.args.bytes.now) ∙ sym (λ i. c.in-Some.ensures.cases.0 i ++ c.in-Some.ensures.cases.1 i) in
    no_record c.record_head_of-kind.result.0 len c.args.bytes.now _ _ e c.record_head_of-kind.ensures (search rules)
    (λ f is_f k l le. omega (arith, le, c.if-after-len.true))

pub returns-clause-spelled : goal.returns-clause-spelled
returns-clause-spelled c =
    let len = c.record_head_of-kind.result.1 in
    let e : c.args.bytes.now ≡ c.in-Some.head.now ++ c.in-Some.after.now = sym (take-append-drop 5 c.args.bytes.now) ∙ sym (λ i. c.in-Some.ensures.cases.0 i ++ c.in-Some.ensures.cases.1 i) in
    let a : c.in-Some.after.now ≡ c.split_at.result.0.now ++ c.split_at.result.1.now = sym (take-append-drop len c.in-Some.after.now) ∙ sym (λ i. c.split_at.ensures.front i ++ c.split_at.ensures.back i) in
    record_from c.record_head_of-kind.result.0 len c.args.bytes.now c.in-Some.head.now c.in-Some.after.now _ _ e c.record_head_of-kind.ensures a (sym c.split_at.ensures.front_len)
