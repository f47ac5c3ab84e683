use Rattle.std.proofs.Common.{Bool, List, true, false, None, Ok, Err, refl, sym, ap, subst, arith}
use Rattle.std.specs.Vec.{vec_capacity}
use Rattle.pm_types.specs.declared.flag.Flag.TheVariants as flag
use Rattle.pm_stripe.specs.declared.held.Held.{Held}
use Rattle.pm_stripe.specs.declared.held.Free.{Free}
use Rattle.pm_stripe.specs.Reads.{ReadsPage, stored}
use Rattle.pm_stripe.specs.Fetches.{ReadsFrame}
use Rattle.pm_stripe.specs.Stripes.{kept}
use Rattle.pm_stripe.proofs.ReadPages.{first_long, some_free, not_read, was_read}
use Rattle.pm_stripe.proofs.stripe.Stripe.read_page.Goals as goal

pub first_out-frame-requires : goal.first_out-frame-requires
first_out-frame-requires g c = some_free c.args._locks.now (kept c.args.self.now c.args._seat.now) c.requires.frames c.requires.away.room

pub read_into-requires-clause-long : goal.read_into-requires-clause-long
read_into-requires-clause-long g c = first_long c.args._locks.now (kept c.args.self.now c.args._seat.now) c.requires.holds c.first_out-frame.new.free.items c.first_out-frame.result c.first_out-frame.ensures.list

pub returns-in-Ok-true-clause-reads : goal.returns-in-Ok-true-clause-reads
returns-in-Ok-true-clause-reads g c =
    let k = kept c.args.self.now c.args._seat.now in
    let s : Free = c.first_out-frame.result in
    let lease = c.read_into.new.lease in
    let new : Held = record { page = c.args.page; frame = s.frame; tag = s.tag; lease = lease; was = c.of-was.result; flag = flag.Empty; is_read = true; is_lent = false; patch = None } in
    let told = stored (g.R.Device.history c.args.reader.now).world c.args.self.now.shape.page_size c.args.page in
    let is = ap Ok c.in-Ok-true.field-0-test in
    let P : List Held → Type 0 = λ hs. ReadsFrame c.args._locks.now k (record k { held = hs; held_room = vec_capacity c.push_reserved.new.self; free = c.first_out-frame.new.free.items; free_room = vec_capacity c.first_out-frame.new.free }) c.args.page g.R.Device.tells told (Ok true) in
    subst P (sym c.push_reserved.ensures.items)
    (was_read c.args._locks.now k c.requires.holds c.requires.frames c.first_out-frame.new.free.items s c.first_out-frame.ensures.list lease c.in-Ok-true.ensures.same c.in-Ok-true.ensures.long
    new (vec_capacity c.push_reserved.new.self) (omega (arith, c.push_reserved.ensures.capacity, c.requires.holds.held_room)) (vec_capacity c.first_out-frame.new.free) (omega (arith, c.first_out-frame.ensures.room, c.requires.holds.free_room))
    c.requires.away c.requires.unkept refl refl refl (ap (λ l. l.bytes) c.of-was.ensures) refl refl refl refl (c.in-Ok-true.ensures.reads.passes is)
    g.R.Device.tells told (c.in-Ok-true.ensures.reads.whole is))

pub returns-in-Ok-false-clause-reads : goal.returns-in-Ok-false-clause-reads
returns-in-Ok-false-clause-reads g c =
    let k = kept c.args.self.now c.args._seat.now in
    let s : Free = c.first_out-frame.result in
    let lease = c.read_into.new.lease in
    let told = stored (g.R.Device.history c.args.reader.now).world c.args.self.now.shape.page_size c.args.page in
    let push = c.push_reserved-in-Ok-false in
    let P : List Free → Type 0 = λ fs. ReadsFrame c.args._locks.now k (record k { free = fs; free_room = vec_capacity push.new.self }) c.args.page g.R.Device.tells told (Ok false) in
    subst P (sym push.ensures.items)
    (not_read c.args._locks.now k c.requires.holds c.requires.frames c.first_out-frame.new.free.items s c.first_out-frame.ensures.list lease c.in-Ok-false.ensures.same c.in-Ok-false.ensures.long
    (vec_capacity push.new.self) (omega (arith, push.ensures.capacity, c.first_out-frame.ensures.room, c.requires.holds.free_room)) c.args.page g.R.Device.tells told (Ok false) (λ e. cc e)
    (subst (λ (b : Bool). ReadsPage c.args.self.now.shape c.args.page g.R.Device.tells told (Ok b) lease.bytes) c.in-Ok-false.field-0-test c.in-Ok-false.ensures.reads))

pub returns-in-Err-clause-reads : goal.returns-in-Err-clause-reads
returns-in-Err-clause-reads g c =
    let k = kept c.args.self.now c.args._seat.now in
    let s : Free = c.first_out-frame.result in
    let lease = c.read_into.new.lease in
    let told = stored (g.R.Device.history c.args.reader.now).world c.args.self.now.shape.page_size c.args.page in
    let push = c.push_reserved-in-Err in
    let P : List Free → Type 0 = λ fs. ReadsFrame c.args._locks.now k (record k { free = fs; free_room = vec_capacity push.new.self }) c.args.page g.R.Device.tells told (Err c.in-Err.fault) in
    subst P (sym push.ensures.items)
    (not_read c.args._locks.now k c.requires.holds c.requires.frames c.first_out-frame.new.free.items s c.first_out-frame.ensures.list lease c.in-Err.ensures.same c.in-Err.ensures.long
    (vec_capacity push.new.self) (omega (arith, push.ensures.capacity, c.first_out-frame.ensures.room, c.requires.holds.free_room)) c.args.page g.R.Device.tells told (Err c.in-Err.fault) (λ e. cc e) c.in-Err.ensures.reads)
