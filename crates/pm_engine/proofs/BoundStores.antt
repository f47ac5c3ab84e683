-- A store whose worker did something, whatever it was, and then ended its round.
use Rattle.std.proofs.Common.{◌≡◌, Bool, true, inl, inr, None, refl, sym, ap, subst, ◌∙◌, arith}
use Rattle.pm_types.specs.declared.page_id.PageId.{PageId}
use Rattle.pm_disk.specs.Moments.{History}
use Rattle.pm_disk.specs.States.{DeviceState}
use Rattle.pm_disk.specs.Worlds.{World}
use Rattle.pm_locks.specs.Sight.{LockTable, Sight}
use Rattle.pm_stripe.specs.declared.bound.Bound.{Bound}
use Rattle.pm_stripe.specs.declared.stripe.Stripe.{Stripe}
use Rattle.pm_stripe.specs.Bounds.{IsBound}
use Rattle.pm_stripe.specs.Ends.{EndsRound}
use Rattle.pm_stripe.specs.Kept.{AreClean, held_at, page_bytes}
use Rattle.pm_stripe.specs.Readable.{ReadsAtHand, BoundReadsAtHand}
use Rattle.pm_stripe.specs.Shown.{kept_by, file_by}
use Rattle.pm_stripe.specs.Sights.{KeepsSight, AreSettled}
use Rattle.pm_stripe.specs.SightLaws.{sight_then}
use Rattle.pm_stripe.specs.Stripes.{kept, file_in, file_of, IsAtRest}
use Rattle.pm_stripe.proofs.BasePages.{staying_known}
use Rattle.pm_stripe.proofs.ReadableParts.{keeps_reading, reads_by_parts}
use Rattle.pm_engine.specs.FrameCommands.{IsSameWorker, IsBetweenLines}
use Rattle.pm_engine.specs.FrameHosts.{IsSameStore, HasPagesOf}
use Rattle.pm_engine.specs.FrameStores.{FrameStoreView, IsOpenStore, IsFrameStore}
use Rattle.pm_engine.specs.OutboxLogs.{AreOperationBytes}
use Rattle.pm_engine.proofs.FrameChanges.{known_staying}
use Rattle.pm_engine.proofs.FrameHosts.{bound_shape, any_file, any_reads, pages_are}
use Rattle.pm_engine.proofs.FrameReads.{part_readable}

module _ {Q R : Type 0} (tells : Type 0) (history : R → History) (state : R → DeviceState) (old : FrameStoreView) (is : IsOpenStore old) (b : Bound Q R) (at_locks : b.locks.now ≡ old.locks) (at_seat : b.seat ≡ old.seat) (at_stripe : b.stripe ≡ old.stripe)
    (c : Bound Q R) (same : IsSameWorker tells history state b c) (bound_at_end : IsBound tells history state c) (flag : Bool) (between : flag ≡ true → IsBetweenLines tells history state c)
    (s : Stripe) (seat : Sight) (ends : EndsRound tells history c s seat) (rest : IsAtRest c.locks.now (kept s seat)) where
  abbrev new : FrameStoreView
  new = record old { seat = seat; stripe = s; dirty = None; is_open = flag }

  locks_are : c.locks.now ≡ old.locks
  locks_are = ap (λ l. l.now) same.locks ∙ at_locks

  shape_is : c.stripe.shape ≡ old.shape
  shape_is = same.shape ∙ sym (bound_shape tells history state old is b at_locks at_seat at_stripe)

  sight : KeepsSight old.locks old.seat.view seat.view
  sight =
      let later : KeepsSight b.locks.now b.seat.view seat.view = sight_then b.locks.now b.seat.view c.seat.view seat.view same.sight (subst (λ l. KeepsSight l.now c.seat.view seat.view) same.locks ends.sight) in
      subst (λ (p : LockTable × Sight). KeepsSight p.0 p.1.view seat.view) (λ i. (at_locks i, at_seat i)) later

  rests : IsAtRest old.locks (kept s seat)
  rests = subst (λ (l : LockTable). IsAtRest l (kept s seat)) locks_are rest

  reads : flag ≡ true → ReadsAtHand (λ id. None) old.locks.workers (kept s seat)
  reads opened =
      let x = between opened in
      let k = kept_by c in
      let here : BoundReadsAtHand history c = reads_by_parts.parts (file_by history c) (state c.reader).faults c.locks.now.workers k
      (λ part below own. part_readable history state c part bound_at_end.holds (omega (arith, below, bound_at_end.holds.shaped.partitions_to)) x.readable) in
      let there = (keeps_reading tells history state).end c s seat ends here in
      subst (λ (l : LockTable). ReadsAtHand (λ id. None) l.workers (kept s seat)) locks_are (any_reads (file_of s (history c.reader)) (λ id. None) c.locks.now.workers (kept s seat) there)

  open_after : flag ≡ true → IsOpenStore new
  open_after opened = record {
    workers = is.workers;
    number = ends.same.number ∙ same.number ∙ ap (λ (t : Stripe). t.number) at_stripe ∙ is.number;
    shaped = ends.same.shape ∙ shape_is;
    settled = sight.settled is.settled;
    rests = rests;
    idle = ends.same.is_running ∙ same.is_running ∙ ap (λ (t : Stripe). t.is_running) at_stripe ∙ is.idle;
    readable = reads opened;
  }

  pub store_after : IsFrameStore old → AreOperationBytes c.stripe.outbox → IsFrameStore new
  store_after was_store bytes = record {
    seat = record { of = rests.holds.worker.seat_of; knows = sight.knows was_store.seat.knows; still = ends.still };
    outbox = subst AreOperationBytes (sym ends.same.outbox) bytes;
    counted = tt;
    open_is = open_after;
    frames = was_store.frames;
    size = was_store.size;
    ranges = was_store.ranges;
  }

  module _ (world : World) (at_world : (history b.reader).world ≡ world) where
    told_world : tells → (history c.reader).world ≡ world
    told_world t = same.world t ∙ at_world

    at_end : tells → (id : PageId) → page_bytes (file_by history c) (kept_by c) id ≡ page_bytes (file_in s world) (kept s seat) id
    at_end t id = sym (ends.pages id (inl t)) ∙ (λ i. page_bytes (file_in s (told_world t i)) (kept s seat) id)

    pub ended : flag ≡ true → HasPagesOf tells history new world c
    ended opened = record {
      locks = locks_are;
      shape = shape_is;
      files = sym ends.same.files;
      outbox = sym ends.same.outbox;
      dirty = λ id. (
        ends.staying id,
        λ stay.
            let away = ap (λ hs. held_at hs id.0) (between opened).none_held in
            known_staying (kept_by c) id away (sym (ends.only id away) ∙ staying_known (kept s seat) id stay),
      );
      at_hand = λ id known file.
          let only = ends.only id (ap (λ hs. held_at hs id.0) (between opened).none_held) in
          sym (ends.pages id (inr (only ∙ known))) ∙ any_file (file_of s (history c.reader)) file (kept s seat) id (only ∙ known);
      pages = λ t. pages_are tells history state new world c shape_is (at_end t);
    }

    pub same_store : IsSameStore old new
    same_store = record {
      shape = refl;
      region = refl;
      locks = refl;
      files = ends.same.files ∙ same.files ∙ ap (λ (t : Stripe). t.files) at_stripe;
      is_running = ends.same.is_running ∙ same.is_running ∙ ap (λ (t : Stripe). t.is_running) at_stripe;
    }

    pub settled_before : AreSettled b.locks.now b.seat.view
    settled_before = subst (λ (p : LockTable × Sight). AreSettled p.0 p.1.view) (λ i. (sym at_locks i, sym at_seat i)) is.settled

    pub clean_after : (r : R) → r ≡ c.reader → (tells → AreClean (file_of s (history r)) (kept s seat)) → tells → AreClean (file_in s world) (kept s seat)
    clean_after r back clean t = subst (λ w. AreClean (file_in s w) (kept s seat)) (ap (λ (x : R). (history x).world) back ∙ told_world t) (clean t)
