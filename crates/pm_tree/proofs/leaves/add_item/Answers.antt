use Rattle.pm_tree.specs.Puts.{half_of}
use Rattle.pm_btpage.specs.IndexPages.{index_of}
use Rattle.pm_tree.proofs.StoredNodes.{insert_stored, link_word}
use Rattle.pm_tree.proofs.LeafChanges.{leaf_says, changes_leaf, add_puts}
use Rattle.pm_tree.proofs.leaves.add_item.Goals as goal

pub make_edit-requires-clause-takes : goal.make_edit-requires-clause-takes
make_edit-requires-clause-takes g c = record {
  some = c.requires.item.some;
  page = c.requires.item.page;
  in_hand = c.requires.item.in_hand;
  well_made = c.requires.item.is.0.well_made;
  size = c.requires.item.size;
  fits = (c.requires.item.is.1, c.requires.key, c.requires.item.is.0.between);
}

pub returns-clause-changes : goal.returns-clause-changes
returns-clause-changes g c =
    let T = g.P.Pages.tells in
    let a = g.P.Pages.seen c.args.pages.now in
    changes_leaf T a (g.P.Pages.seen c.make_edit.new.pages) c.args.at c.args.key.now _ c.requires.item.page c.requires.item.some c.requires.meta c.requires.below c.requires.item.in_hand c.requires.item.is.0.well_made c.requires.item.size c.make_edit.ensures.edits c.in_ok-make_edit.ensures.edited
    (λ link stored. insert_stored a.part c.args.at c.args.i (index_of c.requires.item.page) (record { key = c.args.key.now; word = c.args.word }) (link_word a.part (index_of c.requires.item.page).leaf c.args.word (leaf_says c.requires.item.page c.requires.item.is.0.kind) link) stored)

pub returns-clause-puts : goal.returns-clause-puts
returns-clause-puts g c = λ t limit.
    let T = g.P.Pages.tells in
    let a = g.P.Pages.seen c.args.pages.now in
    add_puts T a (g.P.Pages.seen c.make_edit.new.pages) c.args.at c.args.i c.args.key.now c.args.word (half_of a.page_size) t c.requires.readable c.requires.meta c.requires.below c.requires.item c.make_edit.ensures.edits c.in_ok-make_edit.ensures.edited limit
