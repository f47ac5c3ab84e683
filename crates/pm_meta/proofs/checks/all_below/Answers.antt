use Rattle.std.proofs.Common.{refl, arith}
use Rattle.pm_meta.proofs.Indexes.{all_below, each_below}
use Rattle.pm_meta.proofs.checks.all_below.Goals as goal

pub returns-then-get_u32-pages : goal.returns-then-get_u32-pages
returns-then-get_u32-pages c =
    (λ t. absurd (cc t), λ all. absurd (omega (arith, c.if-get_u32-pages.true, c.get_u32.ensures, each_below c.args.pages c.args.page.now all c.each.i (omega arith))))

pub returns : goal.returns
returns c = (λ t. all_below c.args.pages c.args.page.now (λ i lt. c.each.invariant i (omega arith)), λ all. refl)
