use Rattle.std.proofs.Common.{rules, ◌≡◌, ◌<◌, ℕ, true, length, sym, ap, subst, ◌∙◌, arith}
use Rattle.std.proofs.lemmas.List.{length-map}
use Rattle.pm_locks.specs.Sight.{HasPageSize}
use Rattle.pm_locks.proofs.Facts.{page_sizes}
use Rattle.pm_region.specs.Lease.{Leased}
use Rattle.pm_locks.specs.Opening.{first_view}
use Rattle.pm_stripe.specs.Stripes.{IsNewStripe}
use Rattle.pm_stripe.specs.Rests.{BeginsWith}
use Rattle.pm_bench.specs.declared.worker_pages.commands.TheConstants.{SHAPE}
use Rattle.pm_bench.proofs.SharedSeats.{two_rest}
use Rattle.pm_bench.proofs.worker_pages.beginning.begin_two.Goals as goal

pub returns-clause-first : goal.returns-clause-first
returns-clause-first c =
    let region = c.in_ok-_region._region in
    let leases = c.in_ok-_region.leases.items in
    let locks = c.in-Ok.locks in
    let made = c.in-Ok.ensures.locks in
    let many : 192 ≡ length locks.ranges = omega (arith, c.in_ok-_region.ensures.shape.0, c.in_ok-_region.ensures.leases.count, length-map leases (λ (y : Leased). y.range), ap length made.1) in
    let begins : (n : ℕ) → n < 2 → BeginsWith locks c.in-Ok.seat leases SHAPE n = λ n below. record {
      shaped = search rules;
      sized = subst (HasPageSize locks) c.in_ok-_region.ensures.shape.1 (page_sizes locks region leases c.in_ok-_region.ensures.leases made.1);
      seat_of = c.in-Ok.ensures.seat.0;
      first = c.in-Ok.ensures.seat.1 ∙ ap (λ n. first_view n leases) (sym made.0);
      below = omega (arith, made.0, below);
      few = omega (arith, made.0);
    } in
    let rest = two_rest locks c.in-Ok.seat leases SHAPE true c.spread.new.into c.pop.new.self.items c.pop-2.new.self.items c.in-Some-pop.first c.in-Some.second
    (begins 0 (omega arith)) (begins 1 (omega arith)) c.spread.ensures.seats c.spread.ensures.parts made.0 c.in-Some.ensures.items c.in-Some-pop.ensures.items in
    λ s new. rest.0 s (subst (λ n. IsNewStripe 0 SHAPE n true s) many new)

pub returns-clause-second : goal.returns-clause-second
returns-clause-second c =
    let region = c.in_ok-_region._region in
    let leases = c.in_ok-_region.leases.items in
    let locks = c.in-Ok.locks in
    let made = c.in-Ok.ensures.locks in
    let many : 192 ≡ length locks.ranges = omega (arith, c.in_ok-_region.ensures.shape.0, c.in_ok-_region.ensures.leases.count, length-map leases (λ (y : Leased). y.range), ap length made.1) in
    let begins : (n : ℕ) → n < 2 → BeginsWith locks c.in-Ok.seat leases SHAPE n = λ n below. record {
      shaped = search rules;
      sized = subst (HasPageSize locks) c.in_ok-_region.ensures.shape.1 (page_sizes locks region leases c.in_ok-_region.ensures.leases made.1);
      seat_of = c.in-Ok.ensures.seat.0;
      first = c.in-Ok.ensures.seat.1 ∙ ap (λ n. first_view n leases) (sym made.0);
      below = omega (arith, made.0, below);
      few = omega (arith, made.0);
    } in
    let rest = two_rest locks c.in-Ok.seat leases SHAPE true c.spread.new.into c.pop.new.self.items c.pop-2.new.self.items c.in-Some-pop.first c.in-Some.second
    (begins 0 (omega arith)) (begins 1 (omega arith)) c.spread.ensures.seats c.spread.ensures.parts made.0 c.in-Some.ensures.items c.in-Some-pop.ensures.items in
    λ s new. rest.1 s (subst (λ n. IsNewStripe 1 SHAPE n true s) many new)
