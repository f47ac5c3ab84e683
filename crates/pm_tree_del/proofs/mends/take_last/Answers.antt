use Rattle.std.proofs.Common.{◌≡◌, ◌-◌, length, sym, ap, ◌∙◌}
use Rattle.pm_btpage.specs.IndexPages.{items_of, key_in}
use Rattle.pm_tree_del.proofs.SharedPages.{last_wrong, last_shares, last_child_shares}
use Rattle.pm_tree_del.proofs.mends.take_last.Goals as goal

pub returns-then-not-has_place_for-clause-mends : goal.returns-then-not-has_place_for-clause-mends
returns-then-not-has_place_for-clause-mends c =
    let at : c.count-last.result - 1 ≡ length (items_of c.args.left.now) - 1 = ap (λ n. n - 1) c.count-last.ensures in
    last_wrong c.args.parent.now c.args.left.now c.args.right.now c.args.place c.args.key.now c.requires.left c.requires.right c.requires.kind c.requires.key c.requires.apart c.requires.many
    c.requires.few c.key_at.result.now (c.key_at.ensures.key ∙ ap (key_in (items_of c.args.left.now)) at) (λ h. absurd (let e = sym (c.has_place_for.ensures.1 h) ∙ c.if-not-has_place_for.true in cc e))

pub returns-then-is_leaf-clause-mends : goal.returns-then-is_leaf-clause-mends
returns-then-is_leaf-clause-mends c =
    let at : c.count-last.result - 1 ≡ length (items_of c.args.left.now) - 1 = ap (λ n. n - 1) c.count-last.ensures in
    last_shares c.args.parent.now c.args.left.now c.args.right.now c.args.place c.args.key.now c.requires.left c.requires.right c.requires.kind c.requires.key c.requires.apart c.requires.many
    c.set_key.new.parent c.move_last.new.left c.move_last.new.right c.key_at-2.result.now c.set_key.ensures.page c.move_last.ensures.left_page c.move_last.ensures.right_page c.set_key.ensures.says
    (sym c.is_leaf.ensures ∙ c.if-is_leaf.true) c.requires.few (c.key_at-2.ensures.key ∙ ap (key_in (items_of c.args.left.now)) at) c.move_last.ensures.left c.move_last.ensures.right

pub returns-else-is_leaf-clause-mends : goal.returns-else-is_leaf-clause-mends
returns-else-is_leaf-clause-mends c =
    let at : c.count-last.result - 1 ≡ length (items_of c.args.left.now) - 1 = ap (λ n. n - 1) c.count-last.ensures in
    last_child_shares c.args.parent.now c.args.left.now c.args.right.now c.args.place c.args.key.now c.requires.left c.requires.right c.requires.kind c.requires.key c.requires.apart c.requires.many
    c.set_key.new.parent c.move_last_child.new.left c.move_last_child.new.right c.key_at-2.result.now c.set_key.ensures.page c.move_last_child.ensures.left_page c.move_last_child.ensures.right_page c.set_key.ensures.says
    (sym c.is_leaf.ensures ∙ c.if-is_leaf.false) c.requires.few (c.key_at-2.ensures.key ∙ ap (key_in (items_of c.args.left.now)) at) c.move_last_child.ensures.left c.move_last_child.ensures.right
