use Rattle.std.proofs.Common.{List, subst, sym, ap}
use Rattle.pm_types.proofs.Changes.{noted_then}
use Rattle.pm_btpage.specs.IndexPages.{Item, IndexPage, items_of, AllBelow}
use Rattle.pm_tree_del.proofs.EditedItems.{below_with}
use Rattle.pm_tree_del.proofs.sharing.join_inner.Goals as goal

pub merge-requires-clause-order : goal.merge-requires-clause-order
merge-requires-clause-order c =
    subst (λ (xs : List Item). AllBelow xs (items_of c.args.right.now)) (sym (ap (λ (p : IndexPage). p.items) c.insert_at.ensures.says))
    (below_with (items_of c.args.left.now) (items_of c.args.right.now) c.count-end.result _ c.count-end.ensures c.requires.apart.0 c.requires.apart.1)

pub returns-clause-noted : goal.returns-clause-noted
returns-clause-noted c = noted_then c.args.patch.now _ _ c.args.left.now _ _ c.insert_at.ensures.noted c.merge.ensures.noted
