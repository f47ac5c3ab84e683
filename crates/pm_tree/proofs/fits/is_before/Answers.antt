use Rattle.std.proofs.Common.{ℕ, ◌<◌, List, length, subst, sym, arith}
use Rattle.pm_btpage.specs.IndexPages.{items_of, IsBelow}
use Rattle.pm_tree.proofs.Fitting.{all_above}
use Rattle.pm_tree.proofs.fits.is_before.Goals as goal

pub returns-else-i-count : goal.returns-else-i-count
returns-else-i-count c =
    let items = items_of c.args.page.now in
    let lt : c.args.i < length items = omega (arith, c.if-i-count.false, c.count.ensures, c.requires.item) in (
      (λ is. all_above items c.args.key.now c.args.i c.requires.page.items.rising (subst (λ (k : List ℕ). IsBelow c.args.key.now k) c.key_at.ensures.key (c.is_below.ensures.0 is))),
      (λ all. c.is_below.ensures.1 (subst (λ (k : List ℕ). IsBelow c.args.key.now k) (sym c.key_at.ensures.key) (all c.args.i (omega arith) lt))),
    )
