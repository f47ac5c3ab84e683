use Rattle.std.proofs.Common.{◌*◌, ap, arith}
use Rattle.pm_types.specs.Spans.{IsInSpan, span_of}
use Rattle.pm_types.proofs.Changes.{noted, noted_then}
use Rattle.pm_types.proofs.PageSizeBounds.{page_size_bounds}
use Rattle.pm_data.specs.declared.slots.Slot.{Slot}
use Rattle.pm_data.proofs.TakenOut.{RemovalSteps, removed, slots_moved, slot_within, count_moved}
use Rattle.pm_data.proofs.removal.take_out.Goals as goal

pub lift_slots-requires-clause-fits : goal.lift_slots-requires-clause-fits
lift_slots-requires-clause-fits c = λ j lt.
    let page = c.args.page.now in
    let rows = c.requires.page.rows in
    let same_j = slots_moved page c.move_up.new.page _ _ j rows (omega (arith, c.get_u16-low.ensures)) (omega (arith, c.get_u16-count.ensures)) c.move_up.ensures.writes.outside in
    let same_item = slots_moved page c.move_up.new.page _ _ c.args.item rows (omega (arith, c.get_u16-low.ensures)) c.requires.item c.move_up.ensures.writes.outside in
    let start = ap (λ (s : Slot). s.start) same_j in
    let len = ap (λ (s : Slot). s.len) same_item in
    omega (arith, start, len, slot_within page j rows (omega (arith, c.get_u16-count.ensures)), slot_within page c.args.item rows c.requires.item)

pub drop_empty_end-requires-clause-count : goal.drop_empty_end-requires-clause-count
drop_empty_end-requires-clause-count c =
    let long = page_size_bounds _ c.requires.page.size in
    let count = count_moved c.args.page.now _ _ _ _ _ _ c.requires.page.rows (omega (arith, long.0)) (omega (arith, c.get_u16-low.ensures)) c.move_up.ensures.writes.outside c.lift_slots.ensures.outside c.set_u16.ensures.writes.outside in
    omega (arith, count, c.requires.page.rows.few)

pub drop_empty_end-requires-clause-within : goal.drop_empty_end-requires-clause-within
drop_empty_end-requires-clause-within c =
    let long = page_size_bounds _ c.requires.page.size in
    let count = count_moved c.args.page.now _ _ _ _ _ _ c.requires.page.rows (omega (arith, long.0)) (omega (arith, c.get_u16-low.ensures)) c.move_up.ensures.writes.outside c.lift_slots.ensures.outside c.set_u16.ensures.writes.outside in
    omega (arith, count, c.requires.page.rows.low, c.requires.page.rows.full, c.move_up.ensures.writes.outside.size, c.lift_slots.ensures.outside.size, c.set_u16.ensures.writes.outside.size)

pub returns : goal.returns
returns c =
    let moved = c.move_up.ensures.writes in
    let low = c.set_u16.ensures.writes in
    let count = c.drop_empty_end.ensures.writes in
    let steps : RemovalSteps c.args.page.now c.move_up.new.page c.lift_slots.new.page c.set_u16.new.page c.drop_empty_end.new.page c.args.item c.get_u16-low.result c.get_u16-count.result c.get_slot-gone.result = record {
      rows_outside = moved.outside;
      rows_moved = c.move_up.ensures.moved;
      slots_outside = c.lift_slots.ensures.outside;
      slots_left = c.lift_slots.ensures.slots;
      low_outside = low.outside;
      low_now = c.set_u16.ensures.value;
      count_outside = count.outside;
      end_now = c.drop_empty_end.ensures.end;
    } in
    let slots = noted c.move_up.new.patch c.add.new.self (IsInSpan (span_of 32 (4 * c.get_u16-count.result))) c.move_up.new.page c.lift_slots.new.page c.lift_slots.ensures.outside c.add.ensures in
    record {
      drops = removed _ _ _ _ _ c.args.item _ _ _ c.get_u16-low.ensures c.get_u16-count.ensures c.get_slot-gone.ensures c.requires.page c.requires.item c.requires.row steps;
      noted = noted_then _ _ _ _ _ _ moved.noted (noted_then _ _ _ _ _ _ slots (noted_then _ _ _ _ _ _ low.noted count.noted));
    }
