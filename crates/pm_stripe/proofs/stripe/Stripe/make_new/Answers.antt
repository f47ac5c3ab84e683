use Rattle.std.proofs.Common.{List, true, Some, refl, sym, ap, subst, arith}
use Rattle.std.specs.Vec.{vec_capacity}
use Rattle.pm_types.specs.declared.flag.Flag.TheVariants as flag
use Rattle.pm_stripe.specs.declared.held.Held.{Held}
use Rattle.pm_stripe.specs.declared.held.Free.{Free}
use Rattle.pm_stripe.specs.Makes.{MakesAnew}
use Rattle.pm_stripe.specs.Stripes.{kept}
use Rattle.pm_stripe.proofs.MadePages.{made_new}
use Rattle.pm_stripe.proofs.ReadPages.{some_free}
use Rattle.pm_stripe.proofs.stripe.Stripe.make_new.Goals as goal

pub returns-clause-makes : goal.returns-clause-makes
returns-clause-makes c =
    let k = kept c.args.self.now c.args._seat.now in
    let s : Free = c.first_out-frame.result in
    let new : Held = record { page = c.args.page; frame = s.frame; tag = s.tag; lease = c.clear.new.lease; was = c.of-was.result; flag = flag.Empty; is_read = true; is_lent = true; patch = Some c.whole_patch-patch.result } in
    let P : List Held → Type 0 = λ hs. MakesAnew c.args._locks.now k (record k { held = hs; held_room = vec_capacity c.push_reserved.new.self; free = c.first_out-frame.new.free.items; free_room = vec_capacity c.first_out-frame.new.free }) c.args.page in
    subst P (sym c.push_reserved.ensures.items)
    (made_new c.args._locks.now k c.requires.holds c.requires.frames c.first_out-frame.new.free.items s c.first_out-frame.ensures.list new
    (vec_capacity c.push_reserved.new.self) (omega (arith, c.push_reserved.ensures.capacity, c.requires.holds.held_room)) (vec_capacity c.first_out-frame.new.free) (omega (arith, c.first_out-frame.ensures.room, c.requires.holds.free_room))
    c.requires.away c.requires.unkept refl refl c.clear.ensures (ap (λ l. l.bytes) c.of-was.ensures) refl refl refl c.whole_patch-patch.result refl c.whole_patch-patch.ensures)

pub first_out-frame-requires : goal.first_out-frame-requires
first_out-frame-requires c = some_free c.args._locks.now (kept c.args.self.now c.args._seat.now) c.requires.frames c.requires.away.room
