use Rattle.std.proofs.Common.{sym, subst, inl, inr, arith, ◌∙◌}
use Rattle.std.proofs.lemmas.Bool.{false≢true}
use Rattle.pm_data.specs.DataPages.{slot_at, HoldsRow}
use Rattle.pm_data.proofs.RowsByItem.{live_item}
use Rattle.pm_data.proofs.removal.remove.Goals as goal

pub take_out-requires-clause-item : goal.take_out-requires-clause-item
take_out-requires-clause-item c = omega (arith, (live_item c.args.page.now c.args.item c.requires.live).0)

pub take_out-requires-clause-row : goal.take_out-requires-clause-row
take_out-requires-clause-row c =
    let live = live_item c.args.page.now c.args.item c.requires.live in
    subst (λ n. HoldsRow c.args.page.now (slot_at c.args.page.now n)) (sym c.from.ensures)
    (elim (c.requires.page.rows.each c.args.item live.0) [ inl empty ↦ absurd (false≢true (sym live.1 ∙ empty)) | inr holds ↦ holds ])
