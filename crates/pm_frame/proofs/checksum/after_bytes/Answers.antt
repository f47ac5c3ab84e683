use Rattle.std.proofs.Common.{◌≡◌, ◌<◌, ◌/◌, ◌%◌, ◌^◌, get_or, ap, sym, ◌∙◌, arith}
use Rattle.std.specs.Prelude.{bit_xor}
use Rattle.std.proofs.lemmas.List.Sums.{fold_more}
use Rattle.pm_frame.specs.Crc.{shifted_by, with_byte}
use Rattle.pm_frame.proofs.Division.{with_byte-is}
use Rattle.pm_frame.proofs.checksum.after_bytes.Goals as goal

pub loop-byte-preserved : goal.loop-byte-preserved
loop-byte-preserved c =
    let register = c.loop-byte.register in
    let byte = get_or c.args.bytes.now c.loop-byte.byte-index 0 in
    let small : byte < 2 ^ 8 = omega (arith, c.type_inv.bytes c.loop-byte.byte-index) in
    let lowest : get_or c.to_le_bytes.result 0 0 ≡ register % 2 ^ 8 = ap (λ bs. get_or bs 0 0) c.to_le_bytes.ensures in
    ap (λ part. bit_xor part (register / 2 ^ 8)) (c.shifted.ensures ∙ ap (λ low. shifted_by 8 (bit_xor low byte)) lowest)
    ∙ sym (with_byte-is register byte small)
    ∙ ap (λ before. with_byte before byte) c.loop-byte.invariant
    ∙ sym (fold_more with_byte c.args.register c.args.bytes.now c.loop-byte.byte-index 0 c.loop-byte-test.true)
