use Rattle.std.proofs.Common.{rules, ◌≡◌, ◌<◌, ℕ, List, length, sym, ap, subst, arith}
use Rattle.pm_engine.specs.OutboxLogs.{SpellOperationRecords}
use Rattle.pm_engine.proofs.OutboxLoops.{whole_long, front_operation, none_handed, some_begin, some_more, some_all, some_broke}
use Rattle.pm_engine.proofs.Results.{on_err}
use Rattle.pm_engine.proofs.outbox_log.append_operations.Goals as goal

pub each-init : goal.each-init
each-init g c = record {
  so_far = λ frames hand. some_begin SpellOperationRecords g.L.Device.tells (g.L.Device.history c.args.dev.now) c.args.log.now c.args.bytes.now frames (g.L.Device.sound c.args.dev.now) c.requires.end hand;
  state = search rules;
}

pub split_operation-requires : goal.split_operation-requires
split_operation-requires g c =
    let some : 0 < length c.each.rest.now = search rules in
    let so_far = c.each.invariant.so_far c.requires.operations.0 c.requires.operations.1 in
    let front = front_operation c.each.rest.now so_far.left some so_far.others in
    (front.operation, front.more, front.is, front.bytes)

pub append_records-requires-clause-records : goal.append_records-requires-clause-records
append_records-requires-clause-records g c =
    let some : 0 < length c.each.rest.now = search rules in
    let so_far = c.each.invariant.so_far c.requires.operations.0 c.requires.operations.1 in
    let front = front_operation c.each.rest.now so_far.left some so_far.others in
    (front.operation.records, (front.is.records_are, c.split_operation.ensures.records front.operation front.more front.is front.bytes))

pub append_records-requires-clause-end : goal.append_records-requires-clause-end
append_records-requires-clause-end g c = (c.each.invariant.so_far c.requires.operations.0 c.requires.operations.1).appends.ends

pub each-smaller : goal.each-smaller
each-smaller g c =
    let some : 0 < length c.each.rest.now = search rules in
    let so_far = c.each.invariant.so_far c.requires.operations.0 c.requires.operations.1 in
    let front = front_operation c.each.rest.now so_far.left some so_far.others in
    omega (arith, whole_long c.each.rest.now front.operation front.more front.is front.bytes, ap length (c.split_operation.ensures.rest front.operation front.more front.is front.bytes))

pub each-preserved : goal.each-preserved
each-preserved g c =
    let some : 0 < length c.each.rest.now = search rules in
    let split = c.split_operation in
    record {
      so_far = λ frames hand.
          let so_far = c.each.invariant.so_far frames hand in
          let front = front_operation c.each.rest.now so_far.left some so_far.others in
          some_more SpellOperationRecords g.L.Device.tells (g.L.Device.history c.args.dev.now) (g.L.Device.history c.each.dev) c.args.log.now c.each.log c.each.rest.now frames so_far (g.L.Device.history c.append_records.new.dev) c.append_records.new.log split.result.1.now
          front.operation.records front.others front.split
          (subst (λ (bs : List ℕ). SpellOperationRecords bs front.others) (sym (split.ensures.rest front.operation front.more front.is front.bytes)) front.later)
          (c.in_ok-append_records.ensures.appends front.operation.records (front.is.records_are, split.ensures.records front.operation front.more front.is front.bytes));
      state = search rules;
    }

pub returns-in_err-append_records-clause-appends : goal.returns-in_err-append_records-clause-appends
returns-in_err-append_records-clause-appends g c = λ frames hand.
    let some : 0 < length c.each.rest.now = search rules in
    let split = c.split_operation in
    let so_far = c.each.invariant.so_far frames hand in
    let front = front_operation c.each.rest.now so_far.left some so_far.others in
    some_broke SpellOperationRecords g.L.Device.tells (g.L.Device.history c.args.dev.now) (g.L.Device.history c.each.dev) c.args.log.now c.each.log c.each.rest.now frames so_far c.append_records.result c.from_residual.result (g.L.Device.history c.append_records.new.dev)
    c.append_records.new.log front.operation.records front.others front.split (on_err c.from_residual.result c.from_residual.ensures.0)
    (c.append_records.ensures.appends front.operation.records (front.is.records_are, split.ensures.records front.operation front.more front.is front.bytes))

pub returns-clause-appends : goal.returns-clause-appends
returns-clause-appends g c = λ frames hand.
    let none : length c.each.rest.now ≡ 0 = search rules in
    let so_far = c.each.invariant.so_far frames hand in
    some_all SpellOperationRecords g.L.Device.tells (g.L.Device.history c.args.dev.now) (g.L.Device.history c.each.dev) c.args.log.now c.each.log c.each.rest.now frames so_far
    (none_handed c.each.rest.now so_far.left none so_far.others)
