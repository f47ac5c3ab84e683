use Rattle.std.proofs.Common.{Ok, Err}
use Rattle.std.specs.Ordering.{nat_cmp}
use Rattle.std.specs.Cmp.Lexicographic.{slice_cmp}
use Rattle.std.proofs.lemmas.Fn.{always_returns_same}
use Rattle.pm_pages.specs.declared.well_formed.listing.TreeItem.{TreeItem}
use Rattle.pm_pages.proofs.ListedKeys.{finds, item_found, item_absent}
use Rattle.pm_pages.proofs.well_formed.listing.has_item.Goals as goal

pub returns-in-Ok : goal.returns-in-Ok
returns-in-Ok c =
    let items = c.args.items.now in
    let row = c.args.row.now in
    item_found items row c.in-Ok.at c.index-items-at.result c.requires.rising
    (finds items row.key (Ok c.in-Ok.at) c.requires.rising c.in-Ok.ensures.bound (c.in-Ok.ensures.position (λ (item : TreeItem). slice_cmp nat_cmp item.key row.key) (always_returns_same _ _ _ (λ a r f' k. (k.met.0, k.met.1)))))

pub returns-in-Err : goal.returns-in-Err
returns-in-Err c =
    let items = c.args.items.now in
    let row = c.args.row.now in
    item_absent items row c.in-Err.field-0
    (finds items row.key (Err c.in-Err.field-0) c.requires.rising c.in-Err.ensures.bound (c.in-Err.ensures.position (λ (item : TreeItem). slice_cmp nat_cmp item.key row.key) (always_returns_same _ _ _ (λ a r f' k. (k.met.0, k.met.1)))))
