-- What a store's rounds handed over is taken out of its outbox.
use Rattle.std.proofs.Common.{◌≡◌, [], None, refl, sym, subst, ◌∙◌}
use Rattle.std.specs.Prelude.{IfSome}
use Rattle.std.specs.Vec.{vec_capacity}
use Rattle.pm_stripe.specs.declared.stripe.Stripe.{Stripe}
use Rattle.pm_stripe.specs.Kept.{Kept}
use Rattle.pm_stripe.specs.Readable.{ReadsAtHand}
use Rattle.pm_stripe.specs.Stripes.{kept, IsAtRest, SameButOutbox}
use Rattle.pm_engine.specs.FrameStores.{FrameStoreView, IsOpenStore, IsFrameStore}
use Rattle.pm_engine.proofs.KeptCounts.{count_by_places}

module _ (store : FrameStoreView) (t : Stripe) (same : SameButOutbox store.stripe t) where
  abbrev new : FrameStoreView
  new = record store { stripe = t }

  -- a stripe keeps the same pages
  kept_same : kept t store.seat ≡ kept store.stripe store.seat
  kept_same = λ i. record {
    number = same.number i;
    shape = same.shape i;
    places = same.places i;
    seat = store.seat;
    held = (same.held i).items;
    held_room = vec_capacity (same.held i);
    free = (same.free i).items;
    free_room = vec_capacity (same.free i);
  }

  sent_open : IsOpenStore store → IsOpenStore new
  sent_open on = record {
    workers = on.workers;
    number = same.number ∙ on.number;
    shaped = same.shape ∙ on.shaped;
    settled = on.settled;
    rests = subst (λ (k : Kept). IsAtRest store.locks k) (sym kept_same) on.rests;
    idle = same.is_running ∙ on.idle;
    readable = subst (λ (k : Kept). ReadsAtHand (λ id. None) store.locks.workers k) (sym kept_same) on.readable;
  }

  pub sent_store : t.outbox ≡ [] → IsFrameStore store → IsFrameStore new
  sent_store empty is = record {
    seat = is.seat;
    outbox = ([], record { operations = []; are = tt; bytes_are = empty; frames_are = refl });
    counted = subst (λ count. IfSome store.dirty (λ told. told ≡ count)) (count_by_places store t same.places) is.counted;
    open_is = λ on. sent_open (is.open_is on);
    frames = is.frames;
    size = is.size;
    ranges = is.ranges;
  }
