use Rattle.std.proofs.Common.{◌≡◌, length, ap, arith}
use Rattle.pm_btpage.specs.IndexPages.{items_of}
use Rattle.pm_btpage.proofs.ItemsByIndex.{items_within}
use Rattle.pm_btpage.proofs.joining.tail.Goals as goal

pub append-requires-clause-room : goal.append-requires-clause-room
append-requires-clause-room c =
    let w = items_within c.args.left.now c.requires.left in
    let none : length (items_of c.args.right.now) ≡ 0 = ap length c.requires.none in
    omega (arith, w.0, none, c.requires.sizes, c.requires.item)
