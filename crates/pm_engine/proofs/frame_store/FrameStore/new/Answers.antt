use Rattle.std.proofs.Common.{refl, ◌≡◌, ◌&&◌, ◌^◌, ℕ, [], Some, None, length, sym, ap, subst, ◌∙◌, arith}
use Rattle.std.specs.Prelude.{nat_lt, Option, if◌then◌else◌, List, slice_get}
use Rattle.std.specs.FinMap as fin
use Rattle.std.specs.Ordering.{nat_cmp}
use Rattle.std.proofs.lemmas.List.{length-map}
use Rattle.pm_types.specs.declared.page_id.PageId.{PageId}
use Rattle.pm_types.specs.Ids.{page_id}
use Rattle.pm_locks.specs.Sight.{Sight, HasPageSize}
use Rattle.pm_locks.specs.Views.{out_at}
use Rattle.pm_locks.specs.declared.view.View.{View}
use Rattle.pm_locks.proofs.Facts.{page_sizes}
use Rattle.pm_region.specs.Lease.{Leased}
use Rattle.pm_locks.specs.Opening.{first_view}
use Rattle.pm_stripe.specs.Kept.{place_of, held_at, page_bytes, bytes_by, IsStaying, AreClean}
use Rattle.pm_stripe.specs.Stripes.{kept, file_in, IsNewStripe}
use Rattle.pm_stripe.specs.declared.held.Held.{Held}
use Rattle.pm_stripe.specs.declared.stripe.Stripe.{Stripe}
use Rattle.pm_stripe.proofs.ReadableParts.{reads_by_parts}
use Rattle.pm_stripe.specs.Rests.{BeginsWith}
use Rattle.pm_stripe.proofs.NewStripes.{new_rests}
use Rattle.pm_stripe.proofs.FirstSeats.{first_settled}
use Rattle.pm_engine.proofs.RegionLeases.{frames_of}
use Rattle.pm_engine.proofs.frame_store.FrameStore.new.Goals as goal

-- of a new stripe no frame keeps a page, and none is in hand
module _ (s : Stripe) (seat : Sight) (no_page : s.places.table.entries ≡ fin.empty) (none_held : s.held.items ≡ []) where
  unkept : (id : PageId) → place_of (kept s seat) id ≡ None
  unkept id = ap (λ m. fin.get m id.0) no_page ∙ fin.get-empty nat_cmp id.0

  away : (id : PageId) → held_at s.held.items id.0 ≡ None
  away id = ap (λ (hs : List Held). held_at hs id.0) none_held

  as_file : (file : PageId → Option (List ℕ)) (id : PageId) → page_bytes file (kept s seat) id ≡ file id
  as_file file id = λ i. bytes_by (away id i) (unkept id i) seat.view.entries s.number (file id)

  no_clean : (file : PageId → Option (List ℕ)) → AreClean file (kept s seat)
  no_clean file = record {
    kept = λ id f tag e at put clean. let bad : None ≡ Some (f, tag) = sym (unkept id) ∙ at in absurd (cc bad);
    read = λ i h at. let bad : None ≡ Some h = ap (λ (hs : List Held). slice_get hs i) (sym none_held) ∙ at in absurd (cc bad);
  }

  none_stays : (id : PageId) → IsStaying (kept s seat) id → ⊥
  none_stays id stays = let bad : None ≡ Some (stays.frame, stays.tag) = sym (unkept id) ∙ stays.kept in cc bad

pub start-requires-clause-numbers : goal.start-requires-clause-numbers
start-requires-clause-numbers c i lease at = (c.in_ok-region.ensures.leases.each i lease at).number

pub invariant_of-result : goal.invariant_of-result
invariant_of-result c =
    let region = c.in_ok-region.region in
    let leases = c.in_ok-region.leases.items in
    let locks = c.in-Ok.locks in
    let made = c.in-Ok.ensures.locks in
    let s = c.in_ok-stripe.stripe in
    let new = c.in_ok-stripe.ensures in
    let shape = c.args.shape.now in
    let many : c.args.frames ≡ length locks.ranges = omega (arith, c.in_ok-region.ensures.shape.0, c.in_ok-region.ensures.leases.count, length-map leases (λ (y : Leased). y.range), ap length made.1) in
    let begins : BeginsWith locks c.in-Ok.seat leases shape 0 = record {
      shaped = c.requires.shape;
      sized = subst (HasPageSize locks) c.in_ok-region.ensures.shape.1 (page_sizes locks region leases c.in_ok-region.ensures.leases made.1);
      seat_of = c.in-Ok.ensures.seat.0;
      first = c.in-Ok.ensures.seat.1 ∙ ap (λ n. first_view n leases) (sym made.0);
      below = omega (arith, made.0);
      few = omega (arith, made.0);
    } in
    let settled = first_settled locks c.in-Ok.seat leases shape 0 begins in
    let rests = new_rests locks c.in-Ok.seat leases shape 0 c.args.has_files s begins (subst (λ n. IsNewStripe 0 shape n c.args.has_files s) many new) in
    record {
      seat = record {
        of = c.in-Ok.ensures.seat.0;
        knows = c.in-Ok.ensures.knows;
        still = λ f. ap (λ (v : View). out_at v.outs f) c.in-Ok.ensures.seat.1;
      };
      outbox = ([], record { operations = []; are = tt; bytes_are = new.none_logged; frames_are = refl });
      counted = tt;
      open_is = λ _. record {
        workers = made.0;
        number = new.number_is;
        shaped = new.shape_is;
        settled = settled;
        rests = rests;
        idle = new.rests;
        readable = reads_by_parts.none (λ id. None) locks.workers (kept s c.in-Ok.seat) new.none_held (none_stays s c.in-Ok.seat new.no_page new.none_held);
      };
      frames = omega (arith, many, c.in_ok-region.ensures.shape.0);
      size = sym c.in_ok-region.ensures.shape.1;
      ranges = frames_of locks region leases c.in_ok-region.ensures.leases made.1;
    }

pub returns-in-Ok-clause-begins : goal.returns-in-Ok-clause-begins
returns-in-Ok-clause-begins c =
    let leases = c.in_ok-region.leases.items in
    let made = c.in-Ok.ensures.locks in
    let new = c.in_ok-stripe.ensures in
    record {
      shape_is = refl;
      many = omega (arith, c.in_ok-region.ensures.shape.0, c.in_ok-region.ensures.leases.count, length-map leases (λ (y : Leased). y.range), ap length made.1);
      files_are = new.files_are;
      none_logged = new.none_logged;
      is_open = refl;
      rests = invariant_of-result c;
    }

pub returns-in-Ok-clause-pages : goal.returns-in-Ok-clause-pages
returns-in-Ok-clause-pages c world =
    let s = c.in_ok-stripe.stripe in
    let new = c.in_ok-stripe.ensures in
    λ i part index. if nat_lt part c.args.shape.now.partitions && nat_lt index (2 ^ 32) then as_file s c.in-Ok.seat new.no_page new.none_held (file_in s world) (page_id part index) i else None

pub returns-in-Ok-clause-clean : goal.returns-in-Ok-clause-clean
returns-in-Ok-clause-clean c =
    let new = c.in_ok-stripe.ensures in
    none_stays c.in_ok-stripe.stripe c.in-Ok.seat new.no_page new.none_held

pub returns-in-Ok-clause-as_files : goal.returns-in-Ok-clause-as_files
returns-in-Ok-clause-as_files c world =
    let s = c.in_ok-stripe.stripe in
    let new = c.in_ok-stripe.ensures in
    no_clean s c.in-Ok.seat new.no_page new.none_held (file_in s world)
