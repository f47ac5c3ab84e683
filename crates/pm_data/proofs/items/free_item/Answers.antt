use Rattle.std.proofs.Common.{sym, ap, arith, ◌∙◌}
use Rattle.pm_data.specs.DataPages.{is_empty}
use Rattle.pm_data.proofs.RowsByItem.{first_free}
use borrow.Author.Count.{below_more}
use Rattle.pm_data.proofs.items.free_item.Goals as goal

pub returns-then-is_empty : goal.returns-then-is_empty
returns-then-is_empty c =
    sym (first_free c.args.page.now c.items.item (omega arith) c.items.invariant
    (λ _. sym (ap is_empty c.get_slot.ensures) ∙ sym c.is_empty.ensures ∙ c.if-is_empty.true))

pub items-preserved : goal.items-preserved
items-preserved c = below_more _ _ c.items.invariant (sym (ap is_empty c.get_slot.ensures) ∙ sym c.is_empty.ensures ∙ c.if-is_empty.false)

pub returns : goal.returns
returns c =
    sym (first_free c.args.page.now c.get_u16-count.result (omega (arith, c.get_u16-count.ensures)) (λ k lt. c.items.invariant k (omega arith)) (λ lt. absurd (omega (arith, c.get_u16-count.ensures))))
