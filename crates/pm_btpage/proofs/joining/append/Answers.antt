use Rattle.std.proofs.Common.{◌≡◌, sym, ◌∙◌, arith}
use Rattle.pm_types.proofs.Changes.{noted_then}
use Rattle.pm_btpage.specs.IndexPages.{count_of}
use Rattle.pm_btpage.proofs.Appended.{appended}
use Rattle.pm_btpage.proofs.Inserted.{says_items}
use Rattle.pm_btpage.proofs.ItemsByIndex.{length-items_of, items_within}
use Rattle.pm_btpage.proofs.joining.append.Goals as goal

pub copy_items-requires : goal.copy_items-requires
copy_items-requires c =
    let b = items_within c.args.from.now c.requires.from in
    record {
      order = omega (arith, c.requires.item, c.count-there.ensures);
      there = omega (arith, b.0, c.count-there.ensures);
      within = omega (arith, c.requires.room, c.count-here.ensures, c.count-there.ensures);
      sizes = c.requires.sizes;
      long = omega (arith, b.1, c.requires.sizes);
      size = c.requires.size;
    }

pub returns : goal.returns
returns c =
    let page = c.args.into.now in
    let from = c.args.from.now in
    let n = c.count-here.result in
    let counted : count_of page ≡ n = sym (length-items_of page) ∙ sym c.count-here.ensures in
    let ends : count_of from ≡ c.count-there.result = sym (length-items_of from) ∙ sym c.count-there.ensures in
    let all = appended page from c.copy_items.new.into c.set_count.new.page c.args.at n c.count-there.result c.requires.into c.requires.from c.requires.sizes counted ends (omega (arith, c.requires.item, c.count-there.ensures)) (omega (arith, c.requires.room, c.count-here.ensures, c.count-there.ensures)) c.requires.order c.copy_items.ensures.writes.outside c.copy_items.ensures.copied c.set_count.ensures.writes.outside c.set_count.ensures.count in
    record {
      page = all.well_made;
      says = says_items _ _ _ all;
      noted = noted_then c.args.patch.now _ _ page _ _ c.copy_items.ensures.writes.noted c.set_count.ensures.writes.noted;
    }
