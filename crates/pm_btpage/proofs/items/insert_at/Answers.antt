use Rattle.std.proofs.Common.{◌≡◌, sym, ◌∙◌, arith}
use Rattle.pm_types.proofs.Changes.{noted_then}
use Rattle.pm_btpage.specs.IndexPages.{Item, count_of}
use Rattle.pm_btpage.proofs.Inserted.{Steps, inserted, says_items}
use Rattle.pm_btpage.proofs.ItemsByIndex.{length-items_of, items_within}
use Rattle.pm_btpage.proofs.items.insert_at.Goals as goal

pub raise_items-requires : goal.raise_items-requires
raise_items-requires c = let b = items_within c.args.page.now c.requires.page in record { order = omega (arith, c.requires.order.in_range, c.count-number.ensures); within = omega (arith, c.requires.room, c.count-number.ensures); long = b.1; size = c.requires.size }

pub returns : goal.returns
returns c =
    let n = c.count-number.result in
    let i = c.args.i in
    let page = c.args.page.now in
    let item : Item = record { key = c.args.key.now; word = c.args.word } in
    let count : count_of page ≡ n = sym (length-items_of page) ∙ sym c.count-number.ensures in
    let steps : Steps page c.raise_items.new.page c.set_item.new.page c.set_count.new.page i n item = record {
      after_move = c.raise_items.ensures.writes.outside;
      moved = c.raise_items.ensures.moved;
      after_item = c.set_item.ensures.writes.outside;
      item_is = c.set_item.ensures.item;
      sound = c.set_item.ensures.sound;
      after_count = c.set_count.ensures.writes.outside;
      count_is = c.set_count.ensures.count;
    } in
    let all = inserted page _ _ _ i n item c.requires.page count (omega (arith, c.requires.room, c.count-number.ensures)) c.requires.order steps in
    record {
      page = all.well_made;
      says = says_items _ _ _ all;
      noted = noted_then c.args.patch.now _ _ page _ _ c.raise_items.ensures.writes.noted (noted_then _ _ _ _ _ _ c.set_item.ensures.writes.noted c.set_count.ensures.writes.noted);
    }
