-- New stripes of two workers are at rest under the seats that the first seat was spread into.
use Rattle.std.proofs.Common.{◌≡◌, ℕ, ◌+◌, Bool, true, List, [], ◌∷◌, ◌++◌, length, Some, None, refl, sym, ap, ◌∙◌, arith}
use Rattle.std.specs.Prelude.{slice_get}
use Rattle.std.specs.FinMap as fin
use Rattle.std.specs.Ordering.{nat_cmp}
use Rattle.std.proofs.lemmas.List.{length-append}
use Rattle.pm_types.specs.declared.page_id.PageId.{PageId}
use Rattle.pm_types.specs.declared.shape.Shape.{Shape}
use Rattle.pm_region.specs.Lease.{Leased}
use Rattle.pm_locks.specs.Rounds.{IsWorkers, ArePartsOf, HaveAll}
use Rattle.pm_locks.specs.Shares.{IsShare}
use Rattle.pm_locks.specs.Sight.{Sight, LockTable}
use Rattle.pm_locks.specs.Views.{is_among, worker_alone}
use Rattle.pm_locks.specs.declared.seats.Seats.{Seats}
use Rattle.pm_locks.proofs.Callers.{has_alone}
use Rattle.pm_locks.proofs.Pushing.{slice_get-push, slice_get-front}
use Rattle.pm_stripe.specs.declared.stripe.Stripe.{Stripe}
use Rattle.pm_stripe.specs.Kept.{place_of}
use Rattle.pm_stripe.specs.Rests.{BeginsWith}
use Rattle.pm_stripe.specs.Stripes.{kept, IsNewStripe, IsAtRest}
use Rattle.pm_stripe.proofs.NewStripes.{new_rests}

nothing_in : {A B : Type 0} (xs : List B) (i : ℕ) (x : B) → xs ≡ [] → slice_get xs i ≡ Some x → A
nothing_in xs i x nil is = absurd (let bad : None ≡ Some x = sym (ap (λ ys. slice_get ys i) nil) ∙ is in cc bad)

shared_rests : (locks : LockTable) (whole seat : Sight) (leases : List Leased) (shape : Shape) (number : ℕ) (files : Bool) (s : Stripe) → BeginsWith locks whole leases shape number → IsNewStripe number shape (length locks.ranges) files s
    → IsWorkers locks number seat → IsShare whole.view (worker_alone number) seat.view → IsAtRest locks (kept s seat)
shared_rests locks whole seat leases shape number files s b new worker share =
    let x = new_rests locks whole leases shape number files s b new in
    let none : (id : PageId) → place_of (kept s seat) id ≡ None = λ id. ap (λ m. fin.get m id.0) new.no_page ∙ fin.get-empty nat_cmp id.0 in
    let alone : is_among (worker_alone number) s.number ≡ true = ap (is_among (worker_alone number)) new.number_is ∙ has_alone (worker_alone number) number refl in
    record {
      holds = record {
        shaped = x.holds.shaped;
        frames = x.holds.frames;
        many = x.holds.many;
        worker = record { seat_of = worker.of; below = x.holds.worker.below; few = x.holds.worker.few; has = ap (λ m. is_among m s.number) worker.alone ∙ alone };
        kept = λ id f tag is. absurd (let bad : None ≡ Some (f, tag) = sym (none id) ∙ is in cc bad);
        stay = λ f e is stay. x.holds.stay f e (sym (share.entries s.number f alone) ∙ is) stay;
        held = λ i h is. nothing_in s.held.items i h new.none_held is;
        free = λ i f is. nothing_in s.free.items i f new.none_free is;
        apart = record {
          names = x.holds.apart.names;
          held_once = x.holds.apart.held_once;
          free_once = x.holds.apart.free_once;
          both = x.holds.apart.both;
          all = λ f o is. absurd (let bad : None ≡ Some o = sym (worker.still f) ∙ is in cc bad);
        };
        held_room = new.held_room;
        free_room = new.free_room;
      };
      none_held = new.none_held;
      none_free = new.none_free;
    }

-- of both, where the seats are all that there are
pub two_rest : (locks : LockTable) (whole : Sight) (leases : List Leased) (shape : Shape) (files : Bool) (seats : Seats) (some none : List Sight) (lower upper : Sight)
    → BeginsWith locks whole leases shape 0 → BeginsWith locks whole leases shape 1
    → HaveAll locks seats → ArePartsOf whole.view seats → locks.workers ≡ 2 → seats.workers.items ≡ some ++ upper ∷ [] → some ≡ none ++ lower ∷ []
    → ((s : Stripe) → IsNewStripe 0 shape (length locks.ranges) files s → IsAtRest locks (kept s lower)) × ((s : Stripe) → IsNewStripe 1 shape (length locks.ranges) files s → IsAtRest locks (kept s upper))
two_rest locks whole leases shape files seats some none lower upper b c have parts two last next =
    let l : length some + 1 ≡ 2 = sym (length-append some (upper ∷ [])) ∙ ap length (sym last) ∙ have.count ∙ two in
    let m : length none + 1 ≡ length some = sym (length-append none (lower ∷ [])) ∙ ap length (sym next) in
    let one : length some ≡ 1 = omega arith in let zero : length none ≡ 0 = omega arith in
    let at1 : slice_get seats.workers.items 1 ≡ Some upper = ap (slice_get seats.workers.items) (sym one) ∙ ap (λ l. slice_get l (length some)) last ∙ slice_get-push some upper in
    let at0 : slice_get seats.workers.items 0 ≡ Some lower = ap (slice_get seats.workers.items) (sym zero) ∙ ap (λ l. slice_get l (length none)) last ∙ slice_get-front some (upper ∷ []) (length none) (omega arith) ∙ ap (λ l. slice_get l (length none)) next ∙ slice_get-push none lower in (
      λ s new. shared_rests locks whole lower leases shape 0 files s b new (have.each 0 lower at0) (parts.workers 0 lower at0).0,
      λ t new. shared_rests locks whole upper leases shape 1 files t c new (have.each 1 upper at1) (parts.workers 1 upper at1).0,
    )
