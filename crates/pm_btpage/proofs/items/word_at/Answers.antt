use Rattle.std.proofs.Common.{ap, sym, ◌+◌, ◌∙◌, arith}
use Rattle.pm_types.specs.Fields.{u64_at}
use Rattle.pm_btpage.specs.IndexPages.{Item}
use Rattle.pm_btpage.proofs.ItemLists.{no_item}
use Rattle.pm_btpage.proofs.ItemsByIndex.{item_bounds, get_or-items_of}
use Rattle.pm_btpage.proofs.items.word_at.Goals as goal

pub returns : goal.returns
returns c = c.get_u64.ensures ∙ ap (λ n. u64_at c.args.page.now (n + 65)) c.offset.ensures ∙ sym (ap (λ (x : Item). x.word) (get_or-items_of c.args.page.now c.args.i no_item (item_bounds c.args.page.now c.args.i c.requires.page c.requires.item).counted))

pub offset-requires : goal.offset-requires
offset-requires c = let b = item_bounds c.args.page.now c.args.i c.requires.page c.requires.item in omega (arith, b.within, b.long)

pub overflow_add-offset : goal.overflow_add-offset
overflow_add-offset c = let b = item_bounds c.args.page.now c.args.i c.requires.page c.requires.item in omega (arith, b.within, b.long, c.offset.ensures)

pub get_u64-requires : goal.get_u64-requires
get_u64-requires c = let b = item_bounds c.args.page.now c.args.i c.requires.page c.requires.item in omega (arith, b.within, c.offset.ensures)
