use Rattle.std.proofs.Common.{◌≡◌, length, ap, subst, arith, ◌∙◌}
use Rattle.pm_types.specs.Spans.{IsInSpan, span_of}
use Rattle.pm_types.specs.Pages.{SameOutside}
use Rattle.pm_types.specs.Fields.{bytes_at}
use Rattle.pm_data.specs.declared.slots.Slot.{Slot}
use Rattle.pm_data.specs.DataPages.{slot_at}
use Rattle.pm_data.proofs.Replacement.{held_at, replaced, room_stays}
use Rattle.pm_data.proofs.replacing.replace.Goals as goal

pub get_slot-slot-requires-clause-item : goal.get_slot-slot-requires-clause-item
get_slot-slot-requires-clause-item c =
    let held = held_at c.args.page.now c.args.item (length c.args.row.now) c.requires.page c.requires.alike in
    omega (arith, held.0, c.from.ensures, c.requires.page.rows.few)

pub get_slot-slot-requires-clause-within : goal.get_slot-slot-requires-clause-within
get_slot-slot-requires-clause-within c =
    let held = held_at c.args.page.now c.args.item (length c.args.row.now) c.requires.page c.requires.alike in
    omega (arith, held.0, c.from.ensures, c.requires.page.rows.low, c.requires.page.rows.full)

pub set_bytes-requires-clause-within : goal.set_bytes-requires-clause-within
set_bytes-requires-clause-within c =
    let held = held_at c.args.page.now c.args.item (length c.args.row.now) c.requires.page c.requires.alike in
    let slot : c.get_slot-slot.result ≡ slot_at c.args.page.now c.args.item = c.get_slot-slot.ensures ∙ ap (slot_at c.args.page.now) c.from.ensures in
    let start = ap (λ (s : Slot). s.start) slot in
    omega (arith, start, held.1.within, held.2)

pub returns-clause-replaces : goal.returns-clause-replaces
returns-clause-replaces c =
    let held = held_at c.args.page.now c.args.item (length c.args.row.now) c.requires.page c.requires.alike in
    let slot : c.get_slot-slot.result ≡ slot_at c.args.page.now c.args.item = c.get_slot-slot.ensures ∙ ap (slot_at c.args.page.now) c.from.ensures in
    let start = ap (λ (s : Slot). s.start) slot in
    replaced c.args.page.now c.set_bytes.new.page c.args.row.now c.args.item c.requires.page c.requires.row held.0 held.1 held.2
    (subst (λ n. SameOutside (IsInSpan (span_of n (length c.args.row.now))) c.args.page.now c.set_bytes.new.page) start c.set_bytes.ensures.writes.outside)
    (subst (λ n. bytes_at c.set_bytes.new.page n (length c.args.row.now) ≡ c.args.row.now) start c.set_bytes.ensures.bytes)

pub returns-clause-room : goal.returns-clause-room
returns-clause-room c =
    let held = held_at c.args.page.now c.args.item (length c.args.row.now) c.requires.page c.requires.alike in
    let slot : c.get_slot-slot.result ≡ slot_at c.args.page.now c.args.item = c.get_slot-slot.ensures ∙ ap (slot_at c.args.page.now) c.from.ensures in
    let start = ap (λ (s : Slot). s.start) slot in
    room_stays c.args.page.now c.set_bytes.new.page c.args.row.now c.args.item c.requires.page c.requires.row held.0 held.1 held.2
    (subst (λ n. SameOutside (IsInSpan (span_of n (length c.args.row.now))) c.args.page.now c.set_bytes.new.page) start c.set_bytes.ensures.writes.outside)
    (subst (λ n. bytes_at c.set_bytes.new.page n (length c.args.row.now) ≡ c.args.row.now) start c.set_bytes.ensures.bytes)
