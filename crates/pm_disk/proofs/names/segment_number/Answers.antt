-- Of a segment's name the digits read so far are the number without those to come.
use Rattle.std.proofs.Common.{◌≡◌, ◌+◌, ◌-◌, ◌*◌, ◌/◌, ◌%◌, ◌^◌, ℕ, ◌<◌, List, length, ◌∙◌, ap, arith}
use Rattle.std.specs.Prelude.{slice_range}
use Rattle.pm_disk.proofs.Digits.{length-segment_name, length-hex_digits, name_digits, name_digit, next_digit}
use Rattle.pm_disk.proofs.names.segment_number.Goals as goal

pub returns-then-name-ne-SEGMENT_NAME_LEN : goal.returns-then-name-ne-SEGMENT_NAME_LEN
returns-then-name-ne-SEGMENT_NAME_LEN c = λ seg is. c.if-name-ne-SEGMENT_NAME_LEN.true (ap (λ (l : List ℕ). length l) is.is ∙ length-segment_name seg)

pub loop-digit-preserved : goal.loop-digit-preserved
loop-digit-preserved c = λ seg is.
    let i = c.loop-digit.digit-index in
    let part : length (slice_range c.args.name.now 4 20) ≡ 16 = ap (λ (l : List ℕ). length l) (name_digits c.args.name.now seg is.is) ∙ length-hex_digits 16 seg in
    let lt : i < 16 = omega (arith, part, c.loop-digit-test.true) in
    let digit : c.digit_value.result ≡ seg / 16 ^ (15 - i) % 16 = c.digit_value.ensures (seg / 16 ^ (15 - i) % 16) (omega arith) (name_digit c.args.name.now seg i is.is lt) in
    ap (λ n. (n * 16 % 2 ^ 64 + c.digit_value.result) % 2 ^ 64) (c.loop-digit.invariant seg is)
    ∙ ap (λ d. (seg / 16 ^ (16 - i) * 16 % 2 ^ 64 + d) % 2 ^ 64) digit
    ∙ next_digit seg i is.last lt
