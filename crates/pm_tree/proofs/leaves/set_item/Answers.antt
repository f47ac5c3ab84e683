use Rattle.pm_tree.specs.Puts.{half_of}
use Rattle.pm_btpage.specs.IndexPages.{index_of}
use Rattle.pm_tree.proofs.StoredNodes.{word_stored, link_word}
use Rattle.pm_tree.specs.declared.edits.Edit.TheVariants.{Word}
use Rattle.pm_tree.proofs.LeafChanges.{leaf_says, changes_leaf, stored_leaf, set_puts}
use Rattle.pm_tree.proofs.leaves.set_item.Goals as goal

pub make_edit-requires-clause-takes : goal.make_edit-requires-clause-takes
make_edit-requires-clause-takes g c = record {
  some = c.requires.item.some;
  page = c.requires.item.page;
  in_hand = c.requires.item.in_hand;
  well_made = c.requires.item.is.well_made;
  size = c.requires.item.size;
  fits = c.requires.item.is.at.in_range;
}

pub returns-clause-changes : goal.returns-clause-changes
returns-clause-changes g c =
    let T = g.P.Pages.tells in
    let a = g.P.Pages.seen c.args.pages.now in
    changes_leaf T a (g.P.Pages.seen c.make_edit.new.pages) c.args.at c.args.key.now _ c.requires.item.page c.requires.item.some c.requires.meta c.requires.below c.requires.item.in_hand c.requires.item.is.well_made c.requires.item.size c.make_edit.ensures.edits c.in_ok-make_edit.ensures.edited
    (λ link stored. word_stored a.part c.args.at c.args.i c.args.word (index_of c.requires.item.page) (link_word a.part (index_of c.requires.item.page).leaf c.args.word (leaf_says c.requires.item.page c.requires.item.is.kind) link) stored)

pub returns-clause-puts : goal.returns-clause-puts
returns-clause-puts g c = λ t limit.
    let T = g.P.Pages.tells in
    let a = g.P.Pages.seen c.args.pages.now in
    set_puts T a (g.P.Pages.seen c.make_edit.new.pages) c.args.at c.args.i c.args.was c.args.key.now c.args.word (half_of a.page_size) t c.requires.readable c.requires.meta c.requires.below c.requires.item c.make_edit.ensures.edits c.in_ok-make_edit.ensures.edited limit

pub returns-clause-keeps : goal.returns-clause-keeps
returns-clause-keeps g c = λ t. record {
  kept = tt;
  passes = λ link stored.
      let T = g.P.Pages.tells in
      let a = g.P.Pages.seen c.args.pages.now in
      stored_leaf T a (g.P.Pages.seen c.make_edit.new.pages) c.args.at c.args.key.now (Word c.args.i c.args.word) c.requires.item.page t c.requires.item.some c.requires.meta c.requires.below c.requires.item.in_hand c.requires.item.is.well_made c.requires.item.size
      c.make_edit.ensures.edits c.in_ok-make_edit.ensures.edited
      (λ was. word_stored a.part c.args.at c.args.i c.args.word (index_of c.requires.item.page) (link_word a.part (index_of c.requires.item.page).leaf c.args.word (leaf_says c.requires.item.page c.requires.item.is.kind) link) was) stored;
}
