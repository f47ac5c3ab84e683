use Rattle.std.proofs.Common.{rules, ◌≡◌, ◌∙◌, ◌<◌, ◌++◌, length, refl, ap, arith, vec_capacity}
use Rattle.pm_records.specs.Operations.{records_bytes}
use Rattle.pm_engine.proofs.OutboxLoops.{whole_long, headed, front_number, notes_begin, notes_room, notes_more, notes_all}
use Rattle.pm_engine.proofs.outbox_log.note_operations.Goals as goal

pub each-init : goal.each-init
each-init c = record {
  numbers = λ numbers spell. notes_begin c.args.bytes.now numbers c.args.order.now.items spell;
  capacity = refl;
}

pub operation_number-number-requires : goal.operation_number-number-requires
operation_number-number-requires c =
    let some : 0 < length c.each.rest.now = search rules in
    let room = c.requires in
    let so_far = c.each.invariant.numbers room.numbers room.spelled in
    let front = front_number c.each.rest.now so_far.left some so_far.others in
    omega (arith, whole_long c.each.rest.now front.operation front.more front.is front.bytes)

pub split_operation-requires : goal.split_operation-requires
split_operation-requires c =
    let some : 0 < length c.each.rest.now = search rules in
    let room = c.requires in
    let so_far = c.each.invariant.numbers room.numbers room.spelled in
    let front = front_number c.each.rest.now so_far.left some so_far.others in
    (front.operation, front.more, front.is, front.bytes)

pub push_reserved-requires : goal.push_reserved-requires
push_reserved-requires c =
    let some : 0 < length c.each.rest.now = search rules in
    let room = c.requires in
    let fits = notes_room c.each.rest.now room.numbers c.args.order.now.items c.each.order.items (vec_capacity c.args.order.now) some room.fits (c.each.invariant.numbers room.numbers room.spelled) in
    omega (arith, fits, c.each.invariant.capacity, c.each.order.ok.0)

pub each-smaller : goal.each-smaller
each-smaller c =
    let some : 0 < length c.each.rest.now = search rules in
    let room = c.requires in
    let so_far = c.each.invariant.numbers room.numbers room.spelled in
    let front = front_number c.each.rest.now so_far.left some so_far.others in
    omega (arith, whole_long c.each.rest.now front.operation front.more front.is front.bytes, ap length (c.split_operation.ensures.rest front.operation front.more front.is front.bytes))

pub each-preserved : goal.each-preserved
each-preserved c =
    let some : 0 < length c.each.rest.now = search rules in
    let split = c.split_operation in
    record {
      numbers = λ numbers spell.
          notes_more c.each.rest.now numbers c.args.order.now.items c.each.order.items some (c.each.invariant.numbers numbers spell) c.operation_number-number.result c.push_reserved.new.self.items split.result.1.now
          (λ o more is e. c.operation_number-number.ensures o.line (length (records_bytes o.records)) (records_bytes o.records ++ more) is.numbered (headed c.each.rest.now o more is e)) c.push_reserved.ensures.items
          (λ o more is e. split.ensures.rest o more is e);
      capacity = c.push_reserved.ensures.capacity ∙ c.each.invariant.capacity;
    }

pub returns : goal.returns
returns c = λ numbers spell.
    let none : length c.each.rest.now ≡ 0 = search rules in
    notes_all c.each.rest.now numbers c.args.order.now.items c.each.order.items none (c.each.invariant.numbers numbers spell)
