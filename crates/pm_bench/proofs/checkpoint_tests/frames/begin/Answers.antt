use Rattle.std.proofs.Common.{rules, refl, ◌≡◌, ℕ, zero, suc, [], ◌∷◌, Some, true, length, sym, ap, subst, ◌∙◌, arith}
use Rattle.std.specs.Prelude.{slice_get}
use Rattle.std.proofs.lemmas.Option.{same_Some}
use Rattle.std.proofs.lemmas.List.{length-map}
use Rattle.pm_types.specs.declared.shape.Shape.{Shape}
use Rattle.pm_types.specs.Shapes.{IsShape}
use Rattle.pm_locks.specs.Sight.{Sight, LockTable, HasPageSize}
use Rattle.pm_locks.specs.Views.{out_at}
use Rattle.pm_locks.specs.declared.view.View.{View}
use Rattle.pm_locks.proofs.Facts.{page_sizes}
use Rattle.pm_region.specs.Lease.{Leased}
use Rattle.pm_locks.specs.Opening.{first_view}
use Rattle.pm_stripe.specs.Sights.{AreSettled}
use Rattle.pm_stripe.specs.Stripes.{IsNewStripe}
use Rattle.pm_stripe.specs.declared.stripe.Stripe.{Stripe}
use Rattle.pm_ckpt.specs.Dirty.{AreResting, IsResting}
use Rattle.pm_bench.specs.declared.worker_pages.commands.TheConstants.{SHAPE}
use Rattle.pm_stripe.specs.Rests.{BeginsWith}
use Rattle.pm_stripe.proofs.FirstSeats.{first_settled}
use Rattle.pm_stripe.proofs.NewStripes.{new_rests}
use Rattle.pm_bench.proofs.checkpoint_tests.frames.begin.Goals as goal

-- the stripe of the one worker
one_stripe : (locks : LockTable) (shape : Shape) (seat : Sight) (stripe : Stripe) → AreSettled locks seat.view → 1 ≡ locks.workers → IsResting locks shape seat 0 stripe → AreResting locks shape seat (stripe ∷ [])
one_stripe locks shape seat stripe settled one rest = record { settled = settled; count = one; each = at }
  where
    at : (n : ℕ) (other : Stripe) → slice_get (stripe ∷ []) n ≡ Some other → IsResting locks shape seat n other
    at zero other is = subst (IsResting locks shape seat 0) (same_Some _ _ is) rest
    at (suc n) other is = absurd cc

pub returns-clause-stripe : goal.returns-clause-stripe
returns-clause-stripe c =
    let region = c.in_ok-_region._region in
    let leases = c.in_ok-_region.leases.items in
    let locks = c.in-Ok.locks in
    let made = c.in-Ok.ensures.locks in
    let s = c.in_ok-stripe.stripe in
    let new = c.in_ok-stripe.ensures in
    let many : 4 ≡ length locks.ranges = omega (arith, c.in_ok-_region.ensures.shape.0, c.in_ok-_region.ensures.leases.count, length-map leases (λ (y : Leased). y.range), ap length made.1) in
    let begins : BeginsWith locks c.in-Ok.seat leases s.shape 0 = record {
      shaped = subst IsShape (sym new.shape_is) (search rules);
      sized = subst (HasPageSize locks) (c.in_ok-_region.ensures.shape.1 ∙ sym (ap (λ (z : Shape). z.page_size) new.shape_is)) (page_sizes locks region leases c.in_ok-_region.ensures.leases made.1);
      seat_of = c.in-Ok.ensures.seat.0;
      first = c.in-Ok.ensures.seat.1 ∙ ap (λ n. first_view n leases) (sym made.0);
      below = omega (arith, made.0);
      few = omega (arith, made.0);
    } in
    let rests = new_rests locks c.in-Ok.seat leases s.shape 0 true s begins (subst (λ n. IsNewStripe 0 s.shape n true s) many (record {
      number_is = new.number_is;
      shape_is = refl;
      files_are = new.files_are;
      no_page = new.no_page;
      many = new.many;
      none_held = new.none_held;
      held_room = new.held_room;
      none_free = new.none_free;
      free_room = new.free_room;
      sweeps_from = new.sweeps_from;
      rests = new.rests;
      none_logged = new.none_logged;
    })) in
    one_stripe locks SHAPE c.in-Ok.seat s (first_settled locks c.in-Ok.seat leases s.shape 0 begins) (sym made.0) (record { number = new.number_is; shaped = new.shape_is; rests = rests; idle = new.rests; sent = new.none_logged })

pub returns-clause-seat : goal.returns-clause-seat
returns-clause-seat c = record {
  of = c.in-Ok.ensures.seat.0;
  knows = c.in-Ok.ensures.knows;
  still = λ f. ap (λ (v : View). out_at v.outs f) c.in-Ok.ensures.seat.1;
}

pub returns-clause-frames : goal.returns-clause-frames
returns-clause-frames c = omega (arith, c.in_ok-_region.ensures.shape.0, c.in_ok-_region.ensures.leases.count, length-map c.in_ok-_region.leases.items (λ (y : Leased). y.range), ap length c.in-Ok.ensures.locks.1)
