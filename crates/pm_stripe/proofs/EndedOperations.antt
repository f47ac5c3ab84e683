-- What is left where the pages in hand were logged and put back.
use Rattle.std.proofs.Common.{◌≡◌, ℕ, false, List, [], ◌++◌, None, ⊎_elim, inl, length, refl, sym, ap, ◌∙◌, arith}
use Rattle.std.specs.Prelude.{slice_get, if◌then◌else◌}
use Rattle.pm_types.specs.declared.page_id.PageId.{PageId}
use Rattle.pm_disk.specs.Moments.{History}
use Rattle.pm_disk.specs.States.{DeviceState}
use Rattle.pm_locks.specs.Sight.{Sight}
use Rattle.pm_stripe.specs.declared.stripe.Stripe.{Stripe}
use Rattle.pm_stripe.specs.declared.bound.Bound.{Bound}
use Rattle.pm_stripe.specs.Dones.{EndsOperation}
use Rattle.pm_stripe.specs.Kept.{held_at, place_of, bytes_by, read_count}
use Rattle.pm_stripe.specs.Puts.{AreCovered, AreToldCovered, PutsBack}
use Rattle.pm_stripe.specs.Reads.{stored}
use Rattle.pm_stripe.specs.Shown.{kept_by, file_by, IsReady}
use Rattle.pm_stripe.specs.ShownLaws.{any_file, clean_file, may_read}
use Rattle.pm_stripe.specs.Stripes.{kept, SameButPages}
use Rattle.pm_stripe.proofs.BoundCalls.{same_state}

module _ {Q R : Type 0} (tells : Type 0) (history : R → History) (state : R → DeviceState) (b : Bound Q R) (s : Stripe) (seat : Sight) (logged : List ℕ) (ready : IsReady tells history state b) (covered : AreToldCovered tells b.stripe.held.items)
    (same : SameButPages (record b.stripe { outbox = logged }) s) (p : PutsBack b.locks.now (kept_by b) (kept s seat)) (none : s.held.items ≡ []) where
  abbrev ended : Bound Q R
  ended = record b { stripe = s; seat = seat; is_ready = false }

  same_files : (j : PageId) → file_by history ended j ≡ file_by history b j
  same_files j = λ i. if same.files i then stored (history b.reader).world (same.shape i).page_size j else None

  all_rest : b.stripe.held.items ≡ p.rest
  all_rest = p.held ∙ ap (λ hs. hs ++ p.rest) none

  all_covered : tells → AreCovered b.stripe.held.items
  all_covered t i h is = covered i h is (inl t)

  pub ends : EndsOperation tells history state b ended
  ends = record {
    locks = refl;
    part = refl;
    reader = refl;
    not_ready = refl;
    same = record { number = same.number; shape = same.shape; files = same.files; next = same.next; is_running = same.is_running };
    bound = record {
      holds = p.holds;
      reads = may_read b.locks.now.workers (state b.reader) (state b.reader) (kept_by b) (kept s seat) (same_state (state b.reader)) p.shape p.number p.staying ready.bound.reads;
      clean = λ t. clean_file (file_by history b) (file_by history ended) (kept s seat) same_files (p.clean (file_by history b) (ready.bound.clean t) (all_covered t));
      few = omega (arith, ap read_count none, ap length p.free, ready.operates.bare);
    };
    sight = p.left.sight;
    none_held = none;
    free = p.free;
    put = λ i h is. p.put i h (sym (ap (λ hs. slice_get hs i) all_rest) ∙ is);
    staying = p.staying;
    only = p.only;
    pages = λ id. ⊎_elim
        (λ t. ap (bytes_by (held_at s.held.items id.0) (place_of (kept s seat) id) seat.view.entries s.number) (same_files id) ∙ p.told (file_by history b) id (ready.bound.clean t) (all_covered t))
        (λ known. any_file (file_by history ended) (file_by history b) (kept s seat) id known ∙ p.at_hand (file_by history b) id known);
  }
