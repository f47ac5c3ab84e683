use Rattle.std.proofs.Common.{◌≡◌, List, length, take, drop, sym, ap, subst, arith}
use Rattle.std.proofs.lemmas.List.{length-take-le, length-drop}
use Rattle.pm_btpage.specs.IndexPages.{Item, IndexPage, items_of, AllBelow}
use Rattle.pm_btpage.proofs.ItemsByIndex.{items_within}
use Rattle.pm_btpage.proofs.Parts.{parts_are_below}
use Rattle.pm_btpage.proofs.joining.parts_join.Goals as goal

pub merge-requires-clause-room : goal.merge-requires-clause-room
merge-requires-clause-room c =
    let items = items_of c.args.left.now in
    let left : length (items_of c.cut.new.left) ≡ length (take c.args.at items) = ap (λ (p : IndexPage). length p.items) c.cut.ensures.says in
    let right : length (items_of c.tail.new.right) ≡ length (drop c.args.at items) = ap (λ (p : IndexPage). length p.items) c.tail.ensures.says in
    omega (arith, left, right, length-take-le c.args.at items c.requires.item, length-drop c.args.at items, (items_within c.args.left.now c.requires.left).0)

pub merge-requires-clause-order : goal.merge-requires-clause-order
merge-requires-clause-order c =
    let items = items_of c.args.left.now in
    let left : items_of c.cut.new.left ≡ take c.args.at items = ap (λ (p : IndexPage). p.items) c.cut.ensures.says in
    let right : items_of c.tail.new.right ≡ drop c.args.at items = ap (λ (p : IndexPage). p.items) c.tail.ensures.says in
    subst (λ (z : List Item × List Item). AllBelow z.0 z.1) {x = (take c.args.at items, drop c.args.at items)} {y = (items_of c.cut.new.left, items_of c.tail.new.right)} (λ t. (sym left t, sym right t)) (parts_are_below items c.args.at c.requires.item c.requires.left.items.rising)
