-- Items before one and from it on: together they are the items, and the keys of the first are below those of the others.
use Rattle.std.proofs.Common.{ℕ, ◌+◌, ◌≤◌, List, length, take, drop, get_or, sym, subst, arith}
use Rattle.std.proofs.lemmas.List.{length-take-le, length-drop, get_or-take, get_or-drop}
use Rattle.pm_btpage.specs.IndexPages.{Item, AllBelow, IsBelow, IsRising}
use Rattle.pm_btpage.proofs.ItemLists.{no_item}

pub parts_are_below : (items : List Item) (at : ℕ) → at ≤ length items → IsRising items → AllBelow (take at items) (drop at items)
parts_are_below items at le rising i j i_lt j_lt =
    let front = length-take-le at items le in
    let back = length-drop at items in
    subst (λ (z : Item × Item). IsBelow z.0.key z.1.key) {x = (get_or items i no_item, get_or items (at + j) no_item)} {y = (get_or (take at items) i no_item, get_or (drop at items) j no_item)}
    (λ t. (sym (get_or-take at items i no_item (omega (arith, i_lt, front))) t, sym (get_or-drop at items j no_item) t))
    (rising i (at + j) (omega (arith, i_lt, front)) (omega (arith, j_lt, back)))
