use Rattle.std.proofs.Common.{ℕ, ◌-◌, ◌<◌, List, subst, sym, arith}
use Rattle.pm_btpage.specs.IndexPages.{items_of, IsBelow}
use Rattle.pm_tree.proofs.Fitting.{all_below}
use Rattle.pm_tree.proofs.fits.is_above.Goals as goal

pub returns-else-i-eq0 : goal.returns-else-i-eq0
returns-else-i-eq0 c =
    let items = items_of c.args.page.now in
    let some : 0 < c.args.i = omega (arith, c.if-i-eq0.false) in (
      (λ is. all_below items c.args.key.now c.args.i c.requires.page.items.rising c.requires.item some (subst (λ (k : List ℕ). IsBelow k c.args.key.now) c.key_at.ensures.key (c.is_below.ensures.0 is))),
      (λ all. c.is_below.ensures.1 (subst (λ (k : List ℕ). IsBelow k c.args.key.now) (sym c.key_at.ensures.key) (all (c.args.i - 1) (omega (arith, some))))),
    )
