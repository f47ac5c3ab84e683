use Rattle.std.proofs.Common.{◌≡◌, List, length, subst, sym, ap, arith}
use Rattle.pm_types.proofs.Changes.{noted_then}
use Rattle.pm_btpage.specs.IndexPages.{Item, IndexPage, items_of, without_item, IsBetween}
use Rattle.pm_btpage.proofs.ItemsByIndex.{items_within}
use Rattle.pm_tree_del.proofs.EditedItems.{length_without, between_without}
use Rattle.pm_tree_del.proofs.sharing.set_key.Goals as goal

pub insert_at-requires-clause-room : goal.insert_at-requires-clause-room
insert_at-requires-clause-room c =
    let items = items_of c.args.parent.now in
    let e : length (items_of c.remove_at.new.page) ≡ length (without_item items c.args.i) = ap (λ (p : IndexPage). length p.items) c.remove_at.ensures.says in
    let b = items_within c.args.parent.now c.requires.page in
    let size : length c.remove_at.new.page ≡ length c.args.parent.now = c.remove_at.ensures.noted.outside.size in
    omega (arith, e, b.0, size, length_without items c.args.i c.requires.item)

pub insert_at-requires-clause-order : goal.insert_at-requires-clause-order
insert_at-requires-clause-order c =
    let items = items_of c.args.parent.now in
    subst (λ (xs : List Item). IsBetween xs c.args.key.now c.args.i) (sym (ap (λ (p : IndexPage). p.items) c.remove_at.ensures.says)) (between_without items c.args.key.now c.args.i c.requires.item c.requires.place)

pub returns-clause-noted : goal.returns-clause-noted
returns-clause-noted c = noted_then c.args.patch.now _ _ c.args.parent.now _ _ c.remove_at.ensures.noted c.insert_at.ensures.noted
