use Rattle.std.proofs.Common.{ℕ, ◌<◌, List, length, subst, sym, arith}
use Rattle.pm_btpage.specs.IndexPages.{items_of, key_in, IsBelow}
use Rattle.pm_btpage.proofs.Sought.{above_from}
use Rattle.pm_tree_del.proofs.neighbours.are_leaves_apart.Goals as goal

pub returns-else-count-eq0 : goal.returns-else-count-eq0
returns-else-count-eq0 c =
    let left = items_of c.args.left.now in
    let right = items_of c.args.right.now in
    let some : 0 < length right = omega arith in (
      (λ is i j lt less. above_from right (key_in left i) 0 c.requires.right.items.rising (subst (λ (k : List ℕ). IsBelow (key_in left i) k) c.key_at.ensures.key (c.is_above.ensures.0 is i (omega (arith, lt)))) j (omega arith) less),
      (λ all. c.is_above.ensures.1 (λ j lt. subst (λ (k : List ℕ). IsBelow (key_in left j) k) (sym c.key_at.ensures.key) (all j 0 (omega (arith, lt)) some))),
    )
