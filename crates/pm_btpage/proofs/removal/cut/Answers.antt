use Rattle.std.proofs.Common.{◌≡◌, sym, ◌∙◌, arith}
use Rattle.pm_types.proofs.Changes.{noted_then}
use Rattle.pm_btpage.specs.IndexPages.{count_of}
use Rattle.pm_btpage.proofs.CutOff.{cut_off}
use Rattle.pm_btpage.proofs.Inserted.{says_items}
use Rattle.pm_btpage.proofs.ItemsByIndex.{length-items_of, items_within}
use Rattle.pm_btpage.proofs.removal.cut.Goals as goal

pub clear_items-requires : goal.clear_items-requires
clear_items-requires c = let b = items_within c.args.left.now c.requires.page in record { order = omega (arith, c.requires.item, c.count-end.ensures); within = omega (arith, b.0, c.count-end.ensures); long = b.1; size = c.requires.size }

pub returns : goal.returns
returns c =
    let page = c.args.left.now in
    let end = c.count-end.result in
    let counted : count_of page ≡ end = sym (length-items_of page) ∙ sym c.count-end.ensures in
    let all = cut_off page _ _ c.args.at end c.requires.page counted (omega (arith, c.requires.item, c.count-end.ensures)) c.clear_items.ensures.writes.outside c.clear_items.ensures.zeros c.set_count.ensures.writes.outside c.set_count.ensures.count in
    record {
      page = all.well_made;
      says = says_items _ _ _ all;
      noted = noted_then c.args.patch.now _ _ page _ _ c.clear_items.ensures.writes.noted c.set_count.ensures.writes.noted;
    }
