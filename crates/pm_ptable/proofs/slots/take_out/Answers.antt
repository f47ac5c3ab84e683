use Rattle.std.proofs.Common.{◌∙◌}
use Rattle.pm_ptable.proofs.Rows.{remove-absent, remove-there}
use Rattle.pm_ptable.proofs.slots.take_out.Goals as goal

pub returns-then-is_none-clause-entries : goal.returns-then-is_none-clause-entries
returns-then-is_none-clause-entries c =
    remove-absent c.args.slots.now c.slot_for-at.result c.args.page.0 c.slot_for-at.ensures.found c.if-is_none.ensures

pub returns-clause-entries : goal.returns-clause-entries
returns-clause-entries c =
    c.close_gap.ensures.entries ∙ remove-there c.args.homes c.args.slots.now c.args.page c.slot_for-at.result c.requires.single c.slot_for-at.ensures.index c.if-is_none.ensures
