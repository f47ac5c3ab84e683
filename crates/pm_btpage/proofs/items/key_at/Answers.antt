use Rattle.std.proofs.Common.{ap, sym, ◌∙◌}
use Rattle.pm_btpage.specs.IndexPages.{Item}
use Rattle.pm_btpage.proofs.ItemLists.{no_item}
use Rattle.pm_btpage.proofs.ItemsByIndex.{item_bounds, get_or-items_of}
use Rattle.pm_btpage.proofs.items.key_at.Goals as goal

pub returns-clause-key : goal.returns-clause-key
returns-clause-key c = c.stored_key.ensures.key ∙ sym (ap (λ (x : Item). x.key) (get_or-items_of c.args.page.now c.args.i no_item (item_bounds c.args.page.now c.args.i c.requires.page c.requires.item).counted))

pub stored_key-requires : goal.stored_key-requires
stored_key-requires c = let b = item_bounds c.args.page.now c.args.i c.requires.page c.requires.item in record { within = b.within; long = b.long; sound = c.requires.page.items.each c.args.i b.counted }
