use Rattle.std.proofs.Common.{rules, ◌≡◌, ◌<◌, ℕ, List, [], ◌∷◌, length, Ok, sym, ap, subst, arith}
use Rattle.pm_disk.specs.declared.failed.Failed.{Failed}
use Rattle.pm_frame.specs.Frames.{Frame}
use Rattle.pm_records.specs.Operations.{SpellRecords}
use Rattle.pm_engine.specs.AppendRuns.{AppendsAll}
use Rattle.pm_engine.proofs.AppendChains.{one_appended, one_failed}
use Rattle.pm_engine.proofs.OutboxLoops.{record_long, front_record, none_spelled, some_begin, some_more, some_all, some_broke}
use Rattle.pm_engine.proofs.Results.{on_err}
use Rattle.pm_engine.proofs.outbox_log.append_records.Goals as goal

pub each-init : goal.each-init
each-init g c = record {
  so_far = λ frames spelled. some_begin SpellRecords g.L.Device.tells (g.L.Device.history c.args.dev.now) c.args.log.now c.args.records.now frames (g.L.Device.sound c.args.dev.now) c.requires.end spelled;
  state = search rules;
}

pub split_record-kind-requires : goal.split_record-kind-requires
split_record-kind-requires g c =
    let some : 0 < length c.each.rest.now = search rules in
    let so_far = c.each.invariant.so_far c.requires.records.0 c.requires.records.1 in
    let front = front_record c.each.rest.now so_far.left some so_far.others in
    (front.frame, front.more, front.is, front.bytes)

pub append-requires-clause-known_from : goal.append-requires-clause-known_from
append-requires-clause-known_from g c =
    let some : 0 < length c.each.rest.now = search rules in
    let so_far = c.each.invariant.so_far c.requires.records.0 c.requires.records.1 in
    let front = front_record c.each.rest.now so_far.left some so_far.others in
    omega (arith, front.is.known_from, c.split_record-kind.ensures.kind front.frame front.more front.is front.bytes)

pub append-requires-clause-known_to : goal.append-requires-clause-known_to
append-requires-clause-known_to g c =
    let some : 0 < length c.each.rest.now = search rules in
    let so_far = c.each.invariant.so_far c.requires.records.0 c.requires.records.1 in
    let front = front_record c.each.rest.now so_far.left some so_far.others in
    omega (arith, front.is.known_to, c.split_record-kind.ensures.kind front.frame front.more front.is front.bytes)

pub append-requires-clause-short : goal.append-requires-clause-short
append-requires-clause-short g c =
    let some : 0 < length c.each.rest.now = search rules in
    let so_far = c.each.invariant.so_far c.requires.records.0 c.requires.records.1 in
    let front = front_record c.each.rest.now so_far.left some so_far.others in
    omega (arith, front.is.short, ap length (c.split_record-kind.ensures.payload front.frame front.more front.is front.bytes))

pub each-smaller : goal.each-smaller
each-smaller g c =
    let some : 0 < length c.each.rest.now = search rules in
    let so_far = c.each.invariant.so_far c.requires.records.0 c.requires.records.1 in
    let front = front_record c.each.rest.now so_far.left some so_far.others in
    omega (arith, record_long c.each.rest.now front.frame front.more front.is front.bytes, ap length (c.split_record-kind.ensures.rest front.frame front.more front.is front.bytes))

pub each-preserved : goal.each-preserved
each-preserved g c =
    let some : 0 < length c.each.rest.now = search rules in
    let tells = g.L.Device.tells in
    let old = g.L.Device.history c.args.dev.now in
    let mid = g.L.Device.history c.each.dev in
    let new = g.L.Device.history c.append.new.dev in
    let log = c.each.log in
    let now = c.append.new.self in
    let appended = c.in_ok-append.ensures in
    let split = c.split_record-kind in
    let frame : Frame = record { kind = split.result.0; payload = split.result.1.now } in
    record {
      so_far = λ frames spelled.
          let so_far = c.each.invariant.so_far frames spelled in
          let front = front_record c.each.rest.now so_far.left some so_far.others in
          let same : frame ≡ front.frame = λ i. record { kind = split.ensures.kind front.frame front.more front.is front.bytes i; payload = split.ensures.payload front.frame front.more front.is front.bytes i } in
          some_more SpellRecords tells old mid c.args.log.now log c.each.rest.now frames so_far new now split.result.2.now (front.frame ∷ []) front.others front.split
          (subst (λ (bs : List ℕ). SpellRecords bs front.others) (sym (split.ensures.rest front.frame front.more front.is front.bytes)) front.later)
          (subst (λ (f : Frame). AppendsAll {T = Unit {0}} {E = Failed} tells mid new (Ok tt) log now (f ∷ [])) same
          (one_appended tells mid new log now frame appended.grown appended.ends (λ t. (appended.steps t).all) (λ t. (appended.steps t).moments)));
      state = search rules;
    }

pub returns-in_err-append-clause-appends : goal.returns-in_err-append-clause-appends
returns-in_err-append-clause-appends g c = λ frames spelled.
    let some : 0 < length c.each.rest.now = search rules in
    let tells = g.L.Device.tells in
    let old = g.L.Device.history c.args.dev.now in
    let mid = g.L.Device.history c.each.dev in
    let new = g.L.Device.history c.append.new.dev in
    let log = c.each.log in
    let now = c.append.new.self in
    let split = c.split_record-kind in
    let frame : Frame = record { kind = split.result.0; payload = split.result.1.now } in
    let fails = on_err c.from_residual.result c.from_residual.ensures.0 in
    let so_far = c.each.invariant.so_far frames spelled in
    let front = front_record c.each.rest.now so_far.left some so_far.others in
    let same : frame ≡ front.frame = λ i. record { kind = split.ensures.kind front.frame front.more front.is front.bytes i; payload = split.ensures.payload front.frame front.more front.is front.bytes i } in
    some_broke SpellRecords tells old mid c.args.log.now log c.each.rest.now frames so_far c.from_residual.result c.from_residual.result new now (front.frame ∷ []) front.others front.split fails
    (subst (λ (f : Frame). AppendsAll {T = Unit {0}} {E = Failed} tells mid new c.from_residual.result log now (f ∷ [])) same
    (one_failed tells mid new log now frame c.from_residual.result fails (λ t. (c.append.ensures.steps t).moments)))

pub returns-clause-appends : goal.returns-clause-appends
returns-clause-appends g c = λ frames spelled.
    let none : length c.each.rest.now ≡ 0 = search rules in
    let so_far = c.each.invariant.so_far frames spelled in
    some_all SpellRecords g.L.Device.tells (g.L.Device.history c.args.dev.now) (g.L.Device.history c.each.dev) c.args.log.now c.each.log c.each.rest.now frames so_far
    (none_spelled c.each.rest.now so_far.left none so_far.others)
