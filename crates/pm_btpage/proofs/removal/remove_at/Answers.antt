use Rattle.std.proofs.Common.{◌≡◌, ◌+◌, ◌-◌, ◌≤◌, arith}
use Rattle.pm_types.proofs.Changes.{noted_then}
use Rattle.pm_btpage.specs.IndexPages.{count_of}
use Rattle.pm_btpage.proofs.Inserted.{says_items}
use Rattle.pm_btpage.proofs.ItemsByIndex.{length-items_of, items_within}
use Rattle.pm_btpage.proofs.TakenOut.{Steps, taken_out}
use Rattle.pm_btpage.proofs.removal.remove_at.Goals as goal

pub lower_items-requires : goal.lower_items-requires
lower_items-requires c = let b = items_within c.args.page.now c.requires.page in record { order = omega (arith, c.requires.item, c.count-last.ensures); within = omega (arith, b.0, c.requires.item, c.count-last.ensures); long = b.1; size = c.requires.size }

pub clear_items-requires-clause-within : goal.clear_items-requires-clause-within
clear_items-requires-clause-within c = let b = items_within c.args.page.now c.requires.page in omega (arith, b.0, c.requires.item, c.count-last.ensures, c.lower_items.ensures.writes.outside.size)

pub returns : goal.returns
returns c =
    let page = c.args.page.now in
    let i = c.args.i in
    let last = c.count-last.result - 1 in
    let counted : count_of page ≡ last + 1 = omega (arith, length-items_of page, c.count-last.ensures, c.requires.item) in
    let le : i ≤ last = omega (arith, c.count-last.ensures, c.requires.item) in
    let steps : Steps page c.lower_items.new.page c.clear_items.new.page c.set_count.new.page i last = record {
      after_move = c.lower_items.ensures.writes.outside;
      moved = c.lower_items.ensures.moved;
      after_zeros = c.clear_items.ensures.writes.outside;
      zeros = c.clear_items.ensures.zeros;
      after_count = c.set_count.ensures.writes.outside;
      count_is = c.set_count.ensures.count;
    } in
    let all = taken_out page _ _ _ i last c.requires.page counted le steps in
    record {
      page = all.well_made;
      says = says_items _ _ _ all;
      noted = noted_then c.args.patch.now _ _ page _ _ c.lower_items.ensures.writes.noted (noted_then _ _ _ _ _ _ c.clear_items.ensures.writes.noted c.set_count.ensures.writes.noted);
    }
