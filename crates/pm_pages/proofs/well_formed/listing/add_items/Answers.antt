use Rattle.std.proofs.Common.{◌≡◌, ◌<◌, [], ◌++◌, length, get_or, ◌∙◌, arith}
use Rattle.pm_btpage.specs.IndexPages.{Item, items_of, key_in, word_in}
use Rattle.pm_pages.specs.declared.well_formed.listing.TreeItem.{TreeItem}
use Rattle.pm_pages.specs.TreeItems.{as_item, as_items}
use Rattle.pm_pages.proofs.TreeLists.{one_item_more}
use Rattle.pm_pages.proofs.well_formed.listing.add_items.Goals as goal

pub of-requires : goal.of-requires
of-requires c =
    c.key_at.ensures.length

pub items-preserved : goal.items-preserved
items-preserved c =
    let own = items_of c.args.leaf.now in
    let i = c.items.i in
    let lt : i < length own = omega (arith, c.items-test.true, c.count-i-end.ensures) in
    let none : Item = record { key = []; word = 0 } in
    let item : TreeItem = record { key = c.in_ok-key.key; word = c.word_at.result } in
    let key : c.in_ok-key.key ≡ key_in own i = c.in_ok-key.ensures ∙ c.key_at.ensures.key in
    let word : c.word_at.result ≡ word_in own i = c.word_at.ensures in
    let is : as_item item ≡ get_or own i none = λ t. record { key = key t; word = word t } in
    one_item_more c.items.items.items c.push.new.self.items (as_items c.args.items.now.items ++ own) own item i none lt c.items.invariant is c.in_ok-push.ensures.items
