use Rattle.std.proofs.Common.{◌<◌, get_or, sym, ap, subst, inl, inr, arith, ◌∙◌, None}
use Rattle.std.proofs.lemmas.Bool.{false≢true}
use Rattle.pm_data.specs.DataPages.{count_of, row_in, rows_of, IsSound}
use Rattle.pm_data.proofs.RowsByItem.{get_or-rows_of, row_in_empty, row_in_live, row_at_past}
use Rattle.pm_data.proofs.items.row.Goals as goal

pub returns-then-item-get_u16 : goal.returns-then-item-get_u16
returns-then-item-get_u16 c = record { says = row_at_past c.args.page.now c.args.item (omega (arith, c.get_u16.ensures)); is_row = tt }

pub returns-then-is_empty : goal.returns-then-is_empty
returns-then-is_empty c =
    let page = c.args.page.now in
    let here : c.from-item.result < count_of page = omega (arith, c.get_u16.ensures) in
    record {
      says =
          ap (λ i. get_or (rows_of page) i None) (sym c.from-item.ensures) ∙ get_or-rows_of page c.from-item.result None here ∙ ap (row_in page) (sym c.get_slot-slot.ensures)
          ∙ row_in_empty page c.get_slot-slot.result (sym c.is_empty.ensures ∙ c.if-is_empty.true);
      is_row = tt;
    }

pub returns : goal.returns
returns c =
    let page = c.args.page.now in
    let here : c.from-item.result < count_of page = omega (arith, c.get_u16.ensures) in
    let live = sym c.is_empty.ensures ∙ c.if-is_empty.false in
    record {
      says =
          ap (λ i. get_or (rows_of page) i None) (sym c.from-item.ensures) ∙ get_or-rows_of page c.from-item.result None here ∙ ap (row_in page) (sym c.get_slot-slot.ensures)
          ∙ row_in_live page c.get_slot-slot.result live;
      is_row = elim (subst (λ s. IsSound page s) (sym c.get_slot-slot.ensures) (c.requires.rows.each c.from-item.result here)) [ inl empty ↦ absurd (false≢true (sym live ∙ empty)) | inr holds ↦ holds.row ];
    }
