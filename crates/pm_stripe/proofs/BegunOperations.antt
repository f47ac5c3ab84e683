-- What is left where frames were gathered for an operation.
use Rattle.std.proofs.Common.{◌≡◌, ◌≢◌, ℕ, ◌+◌, ◌*◌, ◌<◌, ◌≤◌, Bool, true, false, List, [], ◌++◌, Option, Some, None, ⊎_elim, length, refl, sym, ap, subst, ◌∙◌, arith, append-nil}
use Rattle.std.specs.Prelude.{IsTrue, slice_get, if◌then◌else◌}
use Rattle.std.proofs.lemmas.Bool.{cases_lt}
use Rattle.pm_types.specs.declared.flag.Flag.TheVariants as flag
use Rattle.pm_types.specs.declared.limits.TheConstants.{OP_EXTRA, OP_PAGES, OUTBOX}
use Rattle.pm_types.specs.declared.page_id.PageId.{PageId}
use Rattle.pm_types.specs.declared.shape.Shape.{Shape}
use Rattle.pm_disk.specs.Moments.{History}
use Rattle.pm_disk.specs.States.{DeviceState}
use Rattle.pm_locks.specs.declared.view.Numbers.{Numbers}
use Rattle.pm_locks.specs.Sight.{Sight, KnowsAll}
use Rattle.pm_locks.specs.Views.{is_among, word_at}
use Rattle.pm_stripe.specs.declared.limits.TheConstants.{PAGE_EXTRA}
use Rattle.pm_stripe.specs.declared.bound.Bound.{Bound}
use Rattle.pm_stripe.specs.declared.held.Held.{Held}
use Rattle.pm_stripe.specs.declared.stripe.Stripe.{Stripe}
use Rattle.pm_stripe.specs.Begins.{IsOwnPart, MayBegin, MakesReady, LacksLog, LacksFrames, TriesNone, put_by, frames_by}
use Rattle.pm_stripe.specs.Bounds.{IsBound}
use Rattle.pm_stripe.specs.Dones.{HasOutboxRoom}
use Rattle.pm_stripe.specs.Kept.{held_at, place_of, bytes_by, read_count, stays}
use Rattle.pm_stripe.specs.Met.{GoesOn}
use Rattle.pm_stripe.specs.Puts.{unended_flag, IsPutAs, PutsHeld}
use Rattle.pm_stripe.specs.Reads.{stored}
use Rattle.pm_stripe.specs.Shown.{kept_by, file_by, IsReady}
use Rattle.pm_stripe.specs.ShownLaws.{any_file, clean_file, may_read}
use Rattle.pm_stripe.specs.Stripes.{kept, SameButFrames, SameButPages}
use Rattle.pm_stripe.specs.Sweeps.{stealable, StopsAtEnough, SweepsFrames}
use Rattle.pm_stripe.specs.SightLaws.{sight_then}
use Rattle.pm_stripe.proofs.BoundCalls.{same_state}
use Rattle.pm_stripe.proofs.SweptFrames.{same_low}

not_in : (hs : List Held) (i : ℕ) (h : Held) → hs ≡ [] → slice_get hs i ≡ Some h → ⊥
not_in hs i h none is = let bad : None ≡ Some h = sym (ap (λ xs. slice_get xs i) none) ∙ is in cc bad

-- pages of the partition that is meant may be asked for where an operation may begin
pub may_ask : {Q R : Type 0} (tells : Type 0) (history : R → History) (state : R → DeviceState) (b : Bound Q R) → MayBegin tells history state b → IsOwnPart b b.part → IsReady tells history state b
may_ask tells history state b begins part =
    let held = begins.none_held in record {
      is_ready = begins.is_ready;
      bound = begins.bound;
      operates = record {
        frames = record { few = omega (arith, ap length held); enough = omega (arith, begins.frames) };
        bare = omega (arith, ap read_count held, begins.frames);
        there = part.there;
        own = part.own;
        alone = λ i h is. absurd (not_in b.stripe.held.items i h held is);
      };
    }

both_ways : (x y : Bool) → (x ≡ true → y ≡ true) → (y ≡ true → x ≡ true) → x ≡ y
both_ways true y from to = sym (from refl)
both_ways false true from to = to refl
both_ways false false from to = refl

-- the pages in hand were put back
module _ {Q R : Type 0} (tells : Type 0) (history : R → History) (state : R → DeviceState) (b : Bound Q R) (bound : IsBound tells history state b) (s₁ : Stripe) (seat₁ : Sight)
    (p : PutsHeld b.locks.now (kept_by b) (kept s₁ seat₁)) (same₁ : SameButPages b.stripe s₁) where
  abbrev untried : Bound Q R
  untried = record b { stripe = s₁; seat = seat₁; is_ready = false }

  abbrev file : PageId → Option (List ℕ)
  file = file_by history b

  files₁ : (id : PageId) → file_by history untried id ≡ file id
  files₁ id = λ i. if same₁.files i then stored (history b.reader).world (same₁.shape i).page_size id else None

  -- so many bytes of outbox are left
  module _ (left : ℕ) (left_is : left + length s₁.outbox ≡ OUTBOX) where
    left_before : left + length b.stripe.outbox ≡ OUTBOX
    left_before = omega (arith, left_is, ap length same₁.outbox)

    pub lacks_log : left < OP_PAGES * (s₁.shape.page_size + PAGE_EXTRA) + OP_EXTRA → LacksLog b.stripe left
    lacks_log lacks = record { left_is = left_before; lacks = subst (λ (z : Shape). left < OP_PAGES * (z.page_size + PAGE_EXTRA) + OP_EXTRA) same₁.shape lacks }

    pub has_room : OP_PAGES * (s₁.shape.page_size + PAGE_EXTRA) + OP_EXTRA ≤ left → HasOutboxRoom b.stripe
    has_room room =
        let le : OP_PAGES * (b.stripe.shape.page_size + PAGE_EXTRA) + OP_EXTRA ≤ left = subst (λ (z : Shape). OP_PAGES * (z.page_size + PAGE_EXTRA) + OP_EXTRA ≤ left) same₁.shape room in
        record { room = omega (arith, left_before, le) }

  pub tries_none : TriesNone b untried
  tries_none = record { met = p.left.met; free = p.free; put = p.put }

  -- nothing was gathered
  pub makes_none : MakesReady tells history state b untried
  makes_none = record {
    locks = refl;
    part = refl;
    reader = refl;
    same = record { number = same₁.number; shape = same₁.shape; files = same₁.files; is_running = same₁.is_running; outbox = same₁.outbox };
    bound = record {
      holds = p.holds;
      reads = may_read b.locks.now.workers (state b.reader) (state b.reader) (kept_by b) (kept s₁ seat₁) (same_state (state b.reader)) p.shape p.number p.staying bound.reads;
      clean = λ t. clean_file file (file_by history untried) (kept s₁ seat₁) files₁ (p.clean file (bound.clean t));
      few = omega (arith, ap read_count p.none_held, ap length p.free, bound.few);
    };
    none_held = p.none_held;
    put = λ i h is _. p.put i h is;
    more = [];
    free = p.free ∙ sym (append-nil b.stripe.free.items);
    met = [];
    added = p.left.met ∙ sym (append-nil b.seat.view.met);
    goes_on = record { begins = λ m is. absurd (cc is); ends = λ m is. absurd (cc is); idle = λ _. same₁.next };
    once = record { few = λ f. omega arith };
    stops = record { none = λ _. refl; last = λ few full. absurd (omega (arith, few, full, ap length p.free)) };
    sight = p.left.sight;
    staying = p.staying;
    only = p.only;
    pages = λ id. ⊎_elim
        (λ t. ap (bytes_by (held_at s₁.held.items id.0) (place_of (kept s₁ seat₁) id) seat₁.view.entries s₁.number) (files₁ id) ∙ p.told file id (bound.clean t))
        (λ known. any_file (file_by history untried) file (kept s₁ seat₁) id known ∙ p.at_hand file id known);
  }

  -- a sweep may begin
  pub few_free : length s₁.free.items ≤ OP_PAGES
  few_free = omega (arith, ap length p.free, bound.few)

  -- frames were swept
  module _ (s : Stripe) (seat : Sight) (swept : SweepsFrames b.locks.now (kept s₁ seat₁) (kept s seat) s₁.next s.next) (same : SameButFrames s₁ s) where
    same_all : SameButFrames b.stripe s
    same_all = record { number = same.number ∙ same₁.number; shape = same.shape ∙ same₁.shape; files = same.files ∙ same₁.files; is_running = same.is_running ∙ same₁.is_running; outbox = same.outbox ∙ same₁.outbox }

    added : seat.view.met ≡ b.seat.view.met ++ swept.met
    added = swept.meets.added ∙ ap (λ l. l ++ swept.met) p.left.met

    -- what was in hand and stays is where it was put
    put_still : (i : ℕ) (h : Held) → slice_get b.stripe.held.items i ≡ Some h → IsTrue (stays (unended_flag h)) → IsPutAs (kept s seat) h (unended_flag h)
    put_still i h is stay =
        let d : IsPutAs (kept s₁ seat₁) h (unended_flag h) = p.put i h is in
        let some : unended_flag h ≢ flag.Empty = λ e. (let bad : false ≡ true = ap stays (sym e) ∙ stay in cc bad) in
        let u = swept.gathers.unmoved h.page h.frame h.tag d.entry (d.kept some) d.at (ap stays d.flag_is ∙ stay) in record {
          entry = d.entry;
          at = u.1;
          flag_is = d.flag_is;
          bytes_are = d.bytes_are;
          kept = λ _. u.0;
          gone = λ e. absurd (some e);
        }

    module _ (is_ready : Bool) where
      abbrev now : Bound Q R
      now = record b { stripe = s; seat = seat; is_ready = is_ready }

      same_files : (id : PageId) → file_by history now id ≡ file id
      same_files id = λ i. if same_all.files i then stored (history b.reader).world (same_all.shape i).page_size id else None

      bound_now : IsBound tells history state now
      bound_now = record {
        holds = swept.gathers.holds;
        reads = may_read b.locks.now.workers (state b.reader) (state b.reader) (kept_by b) (kept s seat) (same_state (state b.reader)) (swept.gathers.shape ∙ p.shape) (swept.gathers.number ∙ p.number)
            (λ id is. swept.gathers.staying id (p.staying id is)) bound.reads;
        clean = λ t. clean_file file (file_by history now) (kept s seat) same_files (swept.gathers.keeps.clean file (p.clean file (bound.clean t)));
        few = omega (arith, ap read_count (swept.gathers.held ∙ p.none_held), swept.few);
      }

      pub makes_swept : MakesReady tells history state b now
      makes_swept = record {
        locks = refl;
        part = refl;
        reader = refl;
        same = same_all;
        bound = bound_now;
        none_held = swept.gathers.held ∙ p.none_held;
        put = put_still;
        more = swept.gathers.more;
        free = swept.gathers.free ∙ ap (λ fs. fs ++ swept.gathers.more) p.free;
        met = swept.met;
        added = added;
        goes_on = subst (λ n. GoesOn (length b.locks.now.ranges) swept.met n s.next) same₁.next swept.goes_on;
        once = swept.once;
        stops = subst (λ fs. StopsAtEnough fs s.free.items swept.met) p.free swept.stops;
        sight = sight_then b.locks.now b.seat.view seat₁.view seat.view p.left.sight swept.gathers.sight;
        staying = λ id is. swept.gathers.staying id (p.staying id is);
        only = λ id away. both_ways _ _ (swept.gathers.back id) (swept.gathers.keeps.known id) ∙ p.only id away;
        pages = λ id. ⊎_elim
            (λ t. ap (bytes_by (held_at s.held.items id.0) (place_of (kept s seat) id) seat.view.entries s.number) (same_files id) ∙ swept.gathers.keeps.told file id (p.clean file (bound.clean t)) ∙ p.told file id (bound.clean t))
            (λ known.
            let was = swept.gathers.back id known in
            any_file (file_by history now) file (kept s seat) id known ∙ swept.gathers.keeps.at_hand file id was ∙ p.at_hand file id was);
      }

      -- too few of them are in hand
      pub lacks_frames : (seen : ℕ) → seen ≡ length b.locks.now.ranges → length s.free.items < OP_PAGES → HasOutboxRoom b.stripe → b.stripe.is_running ≡ false → LacksFrames b now seen
      lacks_frames seen all few room rests = record {
        room = room;
        rests = rests;
        all = all;
        few = few;
        met = swept.met;
        meets = record { added = added; own = λ i m is has. swept.meets.own i m is (ap (λ (l : Numbers). is_among l m.word.holder) p.left.sight.numbers ∙ has) };
        each = swept.each few;
      }

    -- what a seat for all numbers knows
    frames_known : length s₁.free.items + stealable seat₁.view (length b.locks.now.ranges) ≡ frames_by b
    frames_known = omega (arith, ap length p.free, same_low (put_by b) seat₁.view (length b.locks.now.ranges) (λ f _. ap (λ ws. word_at ws f) p.left.words))

    pub known_few : KnowsAll b.locks.now b.seat.view → length s.free.items < OP_PAGES → frames_by b < OP_PAGES
    known_few knows few = omega (arith, (swept.exact (p.left.sight.knows knows)).0 few, frames_known)

    pub known_enough : KnowsAll b.locks.now b.seat.view → OP_PAGES ≤ length s.free.items → OP_PAGES ≤ frames_by b
    known_enough knows enough = ⊎_elim
        (λ lt. absurd (let few = (swept.exact (p.left.sight.knows knows)).1 (omega (arith, lt, frames_known)) in omega (arith, few, enough)))
        (λ le. le)
        (cases_lt (frames_by b) OP_PAGES)

    -- and enough of them are in hand
    module _ (enough : OP_PAGES ≤ length s.free.items) (room : HasOutboxRoom b.stripe) where
      pub begins : MayBegin tells history state (now true)
      begins = record {
        is_ready = refl;
        bound = bound_now true;
        none_held = swept.gathers.held ∙ p.none_held;
        frames = omega (arith, enough, swept.few);
        room = record {
          room = subst (λ (z : List ℕ × Shape). length z.0 + OP_PAGES * (z.1.page_size + PAGE_EXTRA) + OP_EXTRA ≤ OUTBOX) (λ i. (sym same_all.outbox i, sym same_all.shape i)) room.room;
        };
      }

      pub asks : IsOwnPart b b.part → IsReady tells history state (now true)
      asks part = may_ask tells history state (now true) begins (record {
        there = subst (λ (z : Shape). b.part < z.partitions) (sym same_all.shape) part.there;
        own = part.own ∙ sym same_all.number;
      })
