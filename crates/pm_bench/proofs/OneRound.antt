-- What one worker carries through a round, and through a checkpoint.
use Rattle.std.proofs.Common.{◌≡◌, ℕ, zero, suc, [], ◌∷◌, Some, Result, Ok, Err, true, refl, sym, ap, subst, ◌∙◌}
use Rattle.std.specs.Prelude.{OnOk, slice_get}
use Rattle.std.proofs.lemmas.Option.{same_Some}
use Rattle.pm_types.specs.declared.page_id.PageId.{PageId}
use Rattle.pm_types.specs.declared.shape.Shape.{Shape}
use Rattle.pm_disk.specs.Moments.{History}
use Rattle.pm_disk.specs.States.{Access, DeviceState, HasCause, IsUsable}
use Rattle.pm_locks.specs.Sight.{Sight, LockTable}
use Rattle.pm_stripe.specs.declared.bound.Bound.{Bound}
use Rattle.pm_stripe.specs.declared.stripe.Stripe.{Stripe}
use Rattle.pm_stripe.specs.Begins.{MakesReady}
use Rattle.pm_stripe.specs.Ends.{EndsRound}
use Rattle.pm_stripe.specs.Kept.{AreClean, IsStaying}
use Rattle.pm_stripe.specs.Readable.{ReadsAtHand}
use Rattle.pm_stripe.specs.Sights.{KeepsSight}
use Rattle.pm_stripe.specs.SightLaws.{sight_then}
use Rattle.pm_stripe.specs.Stripes.{kept, file_of, IsAtRest, SameButFiles}
use Rattle.pm_stripe.proofs.FileStripes.{rests_on_files}
use Rattle.pm_stripe.proofs.ReadableParts.{keeps_reading, reads_by_parts}
use Rattle.pm_ckpt.specs.Dirty.{AreReading, AreResting, IsResting, LeavesFrames, NoneStays, dirty_held, dirty_pages}
use Rattle.pm_ckpt.proofs.StayingPages.{dirty_stays, stay_at_rest}
use Rattle.pm_bench.specs.OneWorker.{IsBetween}

-- what holds at Ok holds there
pub ok_is : {T E : Type 0} (P : Type 0) (result : Result T E) (x : T) → result ≡ Ok x → OnOk result P → P
ok_is P (Ok y) x is holds = holds
ok_is P (Err e) x is holds = absurd cc

-- what is so of the one stripe is so of each
of_one : {X : Type 0} (P : ℕ → X → Type 0) (x : X) → P 0 x → (n : ℕ) (y : X) → slice_get (x ∷ []) n ≡ Some y → P n y
of_one P x is zero y at = subst (P 0) (same_Some _ _ at) is
of_one P x is (suc n) y at = absurd cc

-- the same of a stripe that was bound
pub bound_between : {Q R : Type 0} (tells : Type 0) (history : R → History) (state : R → DeviceState) (locks : LockTable) (seat : Sight) (stripe : Stripe) (reader : R) (b : Bound Q R)
    → b.reader ≡ reader → b.locks.now ≡ locks → b.seat ≡ seat → b.stripe ≡ stripe → IsBetween tells (history reader) (state reader) locks seat stripe → IsBetween tells (history b.reader) (state b.reader) b.locks.now b.seat b.stripe
bound_between {Q} {R} tells history state locks seat stripe reader b at_reader at_locks at_seat at_stripe =
    subst (λ (p : R × LockTable × Sight × Stripe). IsBetween tells (history p.0) (state p.0) p.1 p.2 p.3) (λ i. (sym at_reader i, sym at_locks i, sym at_seat i, sym at_stripe i))

module _ {Q R : Type 0} (tells : Type 0) (history : R → History) (state : R → DeviceState) (b d : Bound Q R) (is : IsBetween tells (history b.reader) (state b.reader) b.locks.now b.seat b.stripe) (makes : MakesReady tells history state b d)
    (s : Stripe) (seat : Sight) (r : R) (ends : EndsRound tells history d s seat) (rest : IsAtRest d.locks.now (kept s seat)) (clean : tells → AreClean (file_of s (history r)) (kept s seat)) (at_end : r ≡ d.reader) where
  locks_same : d.locks.now ≡ b.locks.now
  locks_same = ap (λ l. l.now) makes.locks

  reader_same : r ≡ b.reader
  reader_same = at_end ∙ makes.reader

  sight : KeepsSight b.locks.now b.seat.view seat.view
  sight = sight_then b.locks.now b.seat.view d.seat.view seat.view makes.sight (subst (λ (l : LockTable). KeepsSight l d.seat.view seat.view) locks_same ends.sight)

  rests : IsAtRest b.locks.now (kept s seat)
  rests = subst (λ (l : LockTable). IsAtRest l (kept s seat)) locks_same rest

  was : IsResting b.locks.now b.stripe.shape b.seat 0 b.stripe
  was = is.rests.each 0 b.stripe refl

  still_reads : ReadsAtHand (file_of s (history r)) b.locks.now.workers (kept s seat)
  still_reads =
      let law = keeps_reading tells history state in
      subst (λ (p : R × LockTable). ReadsAtHand (file_of s (history p.0)) p.1.workers (kept s seat)) (λ i. (sym at_end i, locks_same i)) (law.end d s seat ends (law.ready b d makes is.reads))

  pub after_round : IsBetween tells (history r) (state r) b.locks.now seat s
  after_round = record {
    seat_of = record { of = rests.holds.worker.seat_of; knows = sight.knows is.seat_of.knows; still = ends.still };
    rests = record {
      settled = sight.settled is.rests.settled;
      count = is.rests.count;
      each = of_one (IsResting b.locks.now s.shape seat) s (record {
        number = ends.same.number ∙ makes.same.number ∙ was.number;
        shaped = refl;
        rests = rests;
        idle = ends.same.is_running ∙ makes.same.is_running ∙ was.idle;
        sent = ends.same.outbox ∙ makes.same.outbox ∙ was.sent;
      });
    };
    clean = clean;
    reads = still_reads;
    usable = subst (λ (x : R). IsUsable (state x)) (sym reader_same) is.usable;
    each = λ id. subst (λ (x : R). (state x).access.reads id ≡ true) (sym reader_same) (is.each id);
  }

module _ (tells : Type 0) (old new : History) (before now : DeviceState) (locks : LockTable) (shape : Shape) (seat after : Sight) (s t : Stripe) (is : IsBetween tells old before locks seat s) (shape_is : shape ≡ s.shape) (same : SameButFiles s t) (files : t.files ≡ true) where
  resting : AreResting locks shape seat (s ∷ [])
  resting = subst (λ (sh : Shape). AreResting locks sh seat (s ∷ [])) (sym shape_is) is.rests

  reading : AreReading (dirty_held locks (s ∷ []) seat.view) (dirty_pages locks (s ∷ []) seat.view)
  reading = (dirty_stays locks shape seat (s ∷ []) resting is.seat_of).reading (λ x. file_of x old)
      (of_one (λ n x. ReadsAtHand (file_of x old) locks.workers (kept x seat)) s is.reads)

  pages : kept t after ≡ kept s after
  pages = (rests_on_files s t after same files).pages

  none_after : NoneStays after (s ∷ []) → (id : PageId) → IsStaying (kept t after) id → ⊥
  none_after none id x = none 0 s id refl (subst (λ k. IsStaying k id) pages x)

  pub none_stays : {T E : Type 0} (result : Result T E) → LeavesFrames tells locks shape old new result seat after (s ∷ []) → OnOk result (NoneStays after (t ∷ []))
  none_stays (Ok u) x = λ n y id at. of_one (λ n z. IsStaying (kept z after) id → ⊥) t (none_after x.none_stays id) n y at
  none_stays (Err e) x = tt

  pub after_checkpoint : {T E : Type 0} (result : Result T E) → HasCause before now result → LeavesFrames tells locks shape old new result seat after (s ∷ []) → OnOk result (IsBetween tells new now locks after t)
  after_checkpoint (Err e) cause x = tt
  after_checkpoint (Ok u) cause x =
      let all : AreResting locks shape after (t ∷ []) =
      stay_at_rest locks shape after (s ∷ []) (t ∷ []) refl
      (λ n y z. of_one (λ m w. slice_get (t ∷ []) m ≡ Some z → SameButFiles w z × (z.files ≡ true)) s (λ at. subst (λ (w : Stripe). SameButFiles s w × (w.files ≡ true)) (same_Some _ _ at) (same, files)) n y)
      (x.rests reading) in
      record {
        seat_of = x.seat;
        rests = subst (λ (sh : Shape). AreResting locks sh after (t ∷ [])) (shape_is ∙ sym same.shape) all;
        clean = λ told. (rests_on_files s t after same files).clean new.world ((x.clean told).in_files 0 s refl (is.clean told));
        reads = reads_by_parts.none (file_of t new) locks.workers (kept t after) (all.each 0 t refl).rests.none_held (none_after x.none_stays);
        usable = cause.usable is.usable;
        each = λ id. ap (λ (a : Access). a.reads id) cause.access ∙ is.each id;
      }
