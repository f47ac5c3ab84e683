-- Bytes of the outbox were sent: all else holds still.
use Rattle.std.proofs.Common.{◌≡◌, ℕ, ◌+◌, ◌*◌, ◌≤◌, None, length, drop, sym, ap, subst, ◌∙◌, arith}
use Rattle.std.specs.Prelude.{if◌then◌else◌}
use Rattle.std.specs.Vec.{vec_capacity}
use Rattle.std.proofs.lemmas.List.{length-drop}
use Rattle.pm_types.specs.declared.limits.TheConstants.{OP_EXTRA, OP_PAGES, OUTBOX}
use Rattle.pm_types.specs.declared.page_id.PageId.{PageId}
use Rattle.pm_types.specs.declared.shape.Shape.{Shape}
use Rattle.pm_disk.specs.Moments.{History}
use Rattle.pm_disk.specs.States.{DeviceState}
use Rattle.pm_locks.specs.Sight.{Sight}
use Rattle.pm_stripe.specs.declared.limits.TheConstants.{PAGE_EXTRA}
use Rattle.pm_stripe.specs.declared.bound.Bound.{Bound}
use Rattle.pm_stripe.specs.declared.stripe.Stripe.{Stripe}
use Rattle.pm_stripe.specs.Begins.{MayBegin}
use Rattle.pm_stripe.specs.Bounds.{IsBound}
use Rattle.pm_stripe.specs.Kept.{Kept, Holds, AreClean, bare_count}
use Rattle.pm_stripe.specs.Moves.{HasOperation}
use Rattle.pm_stripe.specs.Reads.{stored}
use Rattle.pm_stripe.specs.Shown.{IsReady}
use Rattle.pm_stripe.specs.ShownLaws.{clean_file}
use Rattle.pm_stripe.specs.Stripes.{kept, file_of, MayReadOthers, SameButOutbox}

kept_same : (s t : Stripe) (seat : Sight) → SameButOutbox s t → kept t seat ≡ kept s seat
kept_same s t seat x = λ i. record {
  number = x.number i;
  shape = x.shape i;
  places = x.places i;
  seat = seat;
  held = (x.held i).items;
  held_room = vec_capacity (x.held i);
  free = (x.free i).items;
  free_room = vec_capacity (x.free i);
}

module _ {Q R : Type 0} (tells : Type 0) (history : R → History) (state : R → DeviceState) (b : Bound Q R) (t : Stripe) (n : ℕ) (same : SameButOutbox b.stripe t) (sent : t.outbox ≡ drop n b.stripe.outbox) where
  abbrev now : Bound Q R
  now = record b { stripe = t }

  keeps : kept b.stripe b.seat ≡ kept t b.seat
  keeps = sym (kept_same b.stripe t b.seat same)

  same_files : (id : PageId) → file_of t (history b.reader) id ≡ file_of b.stripe (history b.reader) id
  same_files id = λ i. if same.files i then stored (history b.reader).world (same.shape i).page_size id else None

  pub still_bound : IsBound tells history state b → IsBound tells history state now
  still_bound bound = record {
    holds = subst (Holds b.locks.now) keeps bound.holds;
    reads = subst (MayReadOthers b.locks.now.workers (state b.reader)) keeps bound.reads;
    clean = λ told. clean_file (file_of b.stripe (history b.reader)) (file_of t (history b.reader)) (kept t b.seat) same_files (subst (AreClean (file_of b.stripe (history b.reader))) keeps (bound.clean told));
    few = subst (λ (k : Kept). bare_count k ≤ OP_PAGES) keeps bound.few;
  }

  shorter : length t.outbox ≤ length b.stripe.outbox
  shorter = omega (arith, ap length sent, length-drop n b.stripe.outbox)

  pub still_begins : MayBegin tells history state b → MayBegin tells history state now
  still_begins begins = record {
    is_ready = begins.is_ready;
    bound = still_bound begins.bound;
    none_held = ap (λ hs. hs.items) same.held ∙ begins.none_held;
    frames = ap (λ fs. length fs.items) same.free ∙ begins.frames;
    room = record {
      room = subst (λ (z : Shape). length t.outbox + OP_PAGES * (z.page_size + PAGE_EXTRA) + OP_EXTRA ≤ OUTBOX) (sym same.shape) (omega (arith, begins.room.room, shorter));
    };
  }

  pub still_ready : IsReady tells history state b → IsReady tells history state now
  still_ready ready = record {
    is_ready = ready.is_ready;
    bound = still_bound ready.bound;
    operates = subst (HasOperation b.locks.now b.part) keeps ready.operates;
  }
