use Rattle.std.proofs.Common.{sym, ◌∙◌}
use Rattle.pm_tree_del.proofs.SharedPages.{first_wrong, first_child_wrong, first_shares, first_child_shares}
use Rattle.pm_tree_del.proofs.mends.take_first.Goals as goal

pub returns-then-not-has_place_for-clause-mends : goal.returns-then-not-has_place_for-clause-mends
returns-then-not-has_place_for-clause-mends c =
    first_wrong c.args.parent.now c.args.left.now c.args.right.now c.args.place c.args.key.now c.requires.left c.requires.right c.requires.kind c.requires.key c.requires.apart c.requires.many
    (sym c.is_leaf.ensures ∙ c.if-is_leaf.true) c.requires.few c.key_at.result.now c.key_at.ensures.key (λ h. absurd (let e = sym (c.has_place_for.ensures.1 h) ∙ c.if-not-has_place_for.true in cc e))

pub returns-then-not-has_place_for-2-clause-mends : goal.returns-then-not-has_place_for-2-clause-mends
returns-then-not-has_place_for-2-clause-mends c =
    first_child_wrong c.args.parent.now c.args.left.now c.args.right.now c.args.place c.args.key.now c.requires.left c.requires.right c.requires.kind c.requires.key c.requires.apart c.requires.many
    (sym c.is_leaf.ensures ∙ c.if-is_leaf.false) c.requires.few c.key_at-else-is_leaf.result.now c.key_at-else-is_leaf.ensures.key (λ h. absurd (let e = sym (c.has_place_for-else-is_leaf.ensures.1 h) ∙ c.if-not-has_place_for-2.true in cc e))

pub returns-else-not-has_place_for-clause-mends : goal.returns-else-not-has_place_for-clause-mends
returns-else-not-has_place_for-clause-mends c =
    first_shares c.args.parent.now c.args.left.now c.args.right.now c.args.place c.args.key.now c.requires.left c.requires.right c.requires.kind c.requires.key c.requires.apart c.requires.many
    c.set_key.new.parent c.move_first.new.left c.move_first.new.right c.key_at-then-is_leaf.result.now c.set_key.ensures.page c.move_first.ensures.left_page c.move_first.ensures.right_page c.set_key.ensures.says
    (sym c.is_leaf.ensures ∙ c.if-is_leaf.true) c.requires.few c.key_at-then-is_leaf.ensures.key c.move_first.ensures.left c.move_first.ensures.right

pub returns-else-not-has_place_for-2-clause-mends : goal.returns-else-not-has_place_for-2-clause-mends
returns-else-not-has_place_for-2-clause-mends c =
    first_child_shares c.args.parent.now c.args.left.now c.args.right.now c.args.place c.args.key.now c.requires.left c.requires.right c.requires.kind c.requires.key c.requires.apart c.requires.many
    c.set_key-else-is_leaf.new.parent c.move_first_child.new.left c.move_first_child.new.right c.key_at-else-is_leaf-2.result.now c.set_key-else-is_leaf.ensures.page c.move_first_child.ensures.left_page c.move_first_child.ensures.right_page c.set_key-else-is_leaf.ensures.says
    (sym c.is_leaf.ensures ∙ c.if-is_leaf.false) c.requires.few c.key_at-else-is_leaf-2.ensures.key c.move_first_child.ensures.left c.move_first_child.ensures.right
