-- The begin of an operation.
use Rattle.std.specs.Prelude.{◌≡◌, ℕ, ◌+◌, ◌*◌, ◌%◌, ◌<◌, ◌≤◌, ◌⊎◌, true, false, List, [], ◌++◌, length}
use Rattle.std.specs.Prelude.{Result, Ok, Err, Some, None, IsTrue, slice_get}
use Rattle.pm_types.specs.declared.limits.TheConstants.{OP_EXTRA, OP_PAGES, OUTBOX}
use Rattle.pm_types.specs.declared.page_id.PageId.{PageId}
use Rattle.pm_disk.specs.Moments.{History}
use Rattle.pm_disk.specs.States.{DeviceState}
use Rattle.pm_locks.specs.declared.view.Met.{Met}
use Rattle.pm_locks.specs.declared.view.View.{View}
use Rattle.pm_locks.specs.Sight.{IsFrameOf}
use Rattle.pm_stripe.specs.declared.limits.TheConstants.{PAGE_EXTRA}
use Rattle.pm_stripe.specs.declared.bound.Bound.{Bound}
use Rattle.pm_stripe.specs.declared.halt.Halt.{Halt}
use Rattle.pm_stripe.specs.declared.halt.Halt.TheVariants as halt
use Rattle.pm_stripe.specs.declared.held.Free.{Free}
use Rattle.pm_stripe.specs.declared.held.Held.{Held}
use Rattle.pm_stripe.specs.declared.stripe.Stripe.{Stripe}
use Rattle.pm_stripe.specs.Bounds.{IsBound}
use Rattle.pm_stripe.specs.Dones.{HasOutboxRoom}
use Rattle.pm_stripe.specs.Kept.{IsInHand, IsStaying, held_at, is_known, page_bytes, stays}
use Rattle.pm_stripe.specs.Met.{IsRefused, MeetsFrames, GoesOn}
use Rattle.pm_stripe.specs.Puts.{unended_flag, words_put, IsPutAs}
use Rattle.pm_stripe.specs.Shown.{kept_by, file_by}
use Rattle.pm_stripe.specs.Sights.{KeepsSight}
use Rattle.pm_stripe.specs.Stripes.{SameButFrames}
use Rattle.pm_stripe.specs.Sweeps.{stealable, StopsAtEnough, TriesOnce}

-- how many bytes of outbox one operation may need, whatever it changes
abbrev pub operation_room : ℕ → ℕ
operation_room page_size = OP_PAGES * (page_size + PAGE_EXTRA) + OP_EXTRA

-- So many bytes of outbox are left, and they are too few for one operation.
pub record LacksLog (s : Stripe) (left : ℕ) : Type 0 where
  pub left_is : left + length s.outbox ≡ OUTBOX
  pub lacks : left < operation_room s.shape.page_size

-- A checkpoint runs, and no page for a copy is in hand.
pub record LacksCopies (s : Stripe) (left : ℕ) : Type 0 where
  pub room : HasOutboxRoom s
  pub running : s.is_running ≡ true
  pub none : left ≡ 0

module _ {Q R : Type 0} where
  -- The partition is one of the worker's.
  pub record IsOwnPart (b : Bound Q R) (part : ℕ) : Type 0 where
    pub there : part < b.stripe.shape.partitions
    pub own : part % b.locks.now.workers ≡ b.stripe.number

  -- An operation may begin, on whatever partition of the worker's: no page is in hand, and as many empty frames
  -- and as much outbox are as one operation may need.
  pub record MayBegin (tells : Type 0) (history : R → History) (state : R → DeviceState) (b : Bound Q R)
      : Type 0 where
    pub is_ready : b.is_ready ≡ true
    pub bound : IsBound tells history state b
    pub none_held : b.stripe.held.items ≡ []
    pub frames : length b.stripe.free.items ≡ OP_PAGES
    pub room : HasOutboxRoom b.stripe

  -- What making ready leaves, whatever is answered: the outbox, the partition that is meant and the reader as
  -- they were, no page in hand, and the empty frames that were in hand. Pages in hand are put back as where a
  -- round ends; then frames are tried, from where the last sweep ended, with no more words met of each than one
  -- try meets, and only as long as too few are in hand. Pages that stay do so still, and those that were in
  -- hand and stay have the flag with which they were put back. Of pages that were not in hand the same are at
  -- hand. Each page is as it was where the files' content is told, and each that is at hand in any case.
  pub record MakesReady (tells : Type 0) (history : R → History) (state : R → DeviceState) (b c : Bound Q R)
      : Type 0 where
    pub locks : c.locks ≡ b.locks
    pub part : c.part ≡ b.part
    pub reader : c.reader ≡ b.reader
    pub same : SameButFrames b.stripe c.stripe
    pub bound : IsBound tells history state c
    pub none_held : c.stripe.held.items ≡ []
    pub put : (i : ℕ) (h : Held) → slice_get b.stripe.held.items i ≡ Some h → IsTrue (stays (unended_flag h))
        → IsPutAs (kept_by c) h (unended_flag h)
    pub more : List Free
    pub free : c.stripe.free.items ≡ b.stripe.free.items ++ more
    pub met : List Met
    pub added : c.seat.view.met ≡ b.seat.view.met ++ met
    pub goes_on : GoesOn (length b.locks.now.ranges) met b.stripe.next c.stripe.next
    pub stops : StopsAtEnough b.stripe.free.items c.stripe.free.items met
    pub once : TriesOnce met
    pub sight : KeepsSight b.locks.now b.seat.view c.seat.view
    pub staying : (id : PageId) → IsStaying (kept_by b) id → IsStaying (kept_by c) id
    pub only : (id : PageId) → held_at b.stripe.held.items id.0 ≡ None
        → is_known (kept_by c) id ≡ is_known (kept_by b) id
    pub pages : (id : PageId) → tells ⊎ IsTrue (is_known (kept_by c) id)
        → page_bytes (file_by history c) (kept_by c) id ≡ page_bytes (file_by history b) (kept_by b) id

  -- Outbox is there, no checkpoint runs, and of so many frames too few could be stolen: of each that isn't in
  -- hand this call met a word on which a theft is refused, and none of its words was out at a number of the
  -- seat.
  pub record LacksFrames (b c : Bound Q R) (seen : ℕ) : Type 0 where
    pub room : HasOutboxRoom b.stripe
    pub rests : b.stripe.is_running ≡ false
    pub all : seen ≡ length b.locks.now.ranges
    pub few : length c.stripe.free.items < OP_PAGES
    pub met : List Met
    pub meets : MeetsFrames (kept_by b) (kept_by c) met
    pub each : (f : ℕ) → IsFrameOf b.locks.now f
        → IsInHand c.stripe.held.items c.stripe.free.items f ⊎ IsRefused met f

  -- What is lacking. The cases exclude each other, so each comes exactly where this is so.
  abbrev pub IsLacking : Bound Q R → Bound Q R → Result (Unit {0}) Halt → Type 0
  IsLacking b c (Ok u) = HasOutboxRoom b.stripe × (b.stripe.is_running ≡ false)
  IsLacking b c (Err (halt.NoLog left)) = LacksLog b.stripe left
  IsLacking b c (Err (halt.NoCopy left)) = LacksCopies b.stripe left
  IsLacking b c (Err (halt.NoFrame seen)) = LacksFrames b c seen

  -- No frame was tried: the seat met none, and the empty frames in hand are those that were. Each page that was
  -- in hand is in its frame.
  pub record TriesNone (b c : Bound Q R) : Type 0 where
    pub met : c.seat.view.met ≡ b.seat.view.met
    pub free : c.stripe.free.items ≡ b.stripe.free.items
    pub put : (i : ℕ) (h : Held) → slice_get b.stripe.held.items i ≡ Some h
        → IsPutAs (kept_by c) h (unended_flag h)

  -- where outbox or copies lack no frame is tried
  abbrev pub AreUntried : Bound Q R → Bound Q R → Result (Unit {0}) Halt → Type 0
  AreUntried b c (Ok u) = Unit {0}
  AreUntried b c (Err (halt.NoLog left)) = TriesNone b c
  AreUntried b c (Err (halt.NoCopy left)) = TriesNone b c
  AreUntried b c (Err (halt.NoFrame seen)) = Unit {0}

  -- what the seat knows once the pages in hand are put back
  abbrev pub put_by : Bound Q R → View
  put_by b = record b.seat.view {
    words = words_put unended_flag b.stripe.number b.stripe.held.items b.seat.view.words;
  }

  -- how many empty frames are in hand, and how many more can be stolen then by the words that a seat for all
  -- numbers knows
  abbrev pub frames_by : Bound Q R → ℕ
  frames_by b = length b.stripe.free.items + stealable (put_by b) (length b.locks.now.ranges)

  -- beside these words
  abbrev pub IsExactHalt : Bound Q R → Result (Unit {0}) Halt → Type 0
  IsExactHalt b (Ok u) = OP_PAGES ≤ frames_by b
  IsExactHalt b (Err (halt.NoLog left)) = Unit {0}
  IsExactHalt b (Err (halt.NoCopy left)) = Unit {0}
  IsExactHalt b (Err (halt.NoFrame seen)) = frames_by b < OP_PAGES
