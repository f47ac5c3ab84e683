-- In each turn one digit more stands at the name's end.
use Rattle.std.proofs.Common.{◌≡◌, ◌-◌, ◌/◌, ◌%◌, ℕ, List, ◌++◌, sym, ◌∙◌, ap, arith}
use Rattle.std.specs.Prelude.{codes, slice_set}
use Rattle.pm_disk.specs.Names.{hex_digit}
use Rattle.pm_disk.proofs.Digits.{noughts, begun, begun-more, div-pow, hex_digits-none}
use Rattle.pm_disk.proofs.names.segment_name.Goals as goal

pub loop-i-init : goal.loop-i-init
loop-i-init c = (ap (λ (l : List ℕ). (codes "wal-" ++ noughts 16) ++ (l ++ codes ".seg")) (sym (hex_digits-none c.args.seg)), omega arith)

pub loop-i-preserved : goal.loop-i-preserved
loop-i-preserved c =
    let i = c.loop-i.i in
    let seg = c.args.seg in (
      ap (λ (l : List ℕ). slice_set l (19 - i) c.hex_digit.result) c.loop-i.invariant.0
          ∙ ap (λ d. slice_set (begun i seg) (19 - i) d) (c.hex_digit.ensures ∙ ap (λ r. hex_digit (r % 16)) c.loop-i.invariant.1)
          ∙ begun-more i seg c.loop-i-test.true,
      ap (λ r. r / 16) c.loop-i.invariant.1 ∙ div-pow seg i,
    )

pub returns : goal.returns
returns c =
    let last : c.loop-i.i ≡ 16 = omega (arith, c.loop-i-test.false, c.loop-i.auto.i-end) in
    c.loop-i.invariant.0 ∙ ap (λ k. begun k c.args.seg) last
