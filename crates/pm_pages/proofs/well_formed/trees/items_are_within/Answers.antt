use Rattle.std.proofs.Common.{[], subst, refl, arith}
use Rattle.std.proofs.lemmas.List.{get_or_default}
use Rattle.pm_btpage.specs.IndexPages.{Item, items_of}
use Rattle.pm_pages.specs.Trees.{IsWithin}
use Rattle.pm_pages.proofs.well_formed.trees.items_are_within.Goals as goal

pub returns : goal.returns
returns c =
    let items = items_of c.args.leaf.now in
    let none : Item = record { key = []; word = 0 } in (
      λ h k d lt. subst (IsWithin (items_of c.args.inner.now) c.args.i) (get_or_default items k none d lt) (c.items.invariant k (omega (arith, lt, c.items-test.false, c.count-k-end.ensures))),
      λ all. refl,
    )
