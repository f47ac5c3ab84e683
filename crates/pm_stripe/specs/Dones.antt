-- The end of an operation.
use Rattle.std.specs.Prelude.{◌≡◌, ℕ, ◌+◌, ◌*◌, ◌≤◌, ◌⊎◌, false, [], length, Some, None}
use Rattle.std.specs.Prelude.{IsTrue, slice_get}
use Rattle.pm_types.specs.declared.limits.TheConstants.{OP_EXTRA, OP_PAGES, OUTBOX}
use Rattle.pm_types.specs.declared.page_id.PageId.{PageId}
use Rattle.pm_disk.specs.Moments.{History}
use Rattle.pm_disk.specs.States.{DeviceState}
use Rattle.pm_stripe.specs.declared.limits.TheConstants.{PAGE_EXTRA}
use Rattle.pm_stripe.specs.declared.bound.Bound.{Bound}
use Rattle.pm_stripe.specs.declared.held.Held.{Held}
use Rattle.pm_stripe.specs.declared.stripe.Stripe.{Stripe}
use Rattle.pm_stripe.specs.Bounds.{IsBound}
use Rattle.pm_stripe.specs.Kept.{held_at, page_bytes, is_known, IsStaying}
use Rattle.pm_stripe.specs.Puts.{put_flag, IsPutAs}
use Rattle.pm_stripe.specs.Shown.{kept_by, file_by}
use Rattle.pm_stripe.specs.Sights.{KeepsSight}

-- The outbox has room for one operation more, whatever it changes.
pub record HasOutboxRoom (s : Stripe) : Type 0 where
  pub room : length s.outbox + OP_PAGES * (s.shape.page_size + PAGE_EXTRA) + OP_EXTRA ≤ OUTBOX

-- all but the pages and the outbox is as it was
pub record SameButWork (s t : Stripe) : Type 0 where
  pub number : t.number ≡ s.number
  pub shape : t.shape ≡ s.shape
  pub files : t.files ≡ s.files
  pub next : t.next ≡ s.next
  pub is_running : t.is_running ≡ s.is_running

module _ {Q R : Type 0} where
  -- An operation ended: no page is in hand, and the empty frames in hand are so still. Each page that was in
  -- hand was put back with the bytes that it had in hand: as Dirty where it was changed, as Clean where it was
  -- only read from its file, and else with the flag that it had; one that was lent and not noted is given up,
  -- but for one that stays. Pages that stay do so still, and of those that were not in hand nothing changed.
  -- Each page is as it was where the files' content is told, and each that is at hand in any case.
  pub record EndsOperation (tells : Type 0) (history : R → History) (state : R → DeviceState) (b c : Bound Q R)
      : Type 0 where
    pub locks : c.locks ≡ b.locks
    pub part : c.part ≡ b.part
    pub reader : c.reader ≡ b.reader
    pub not_ready : c.is_ready ≡ false
    pub same : SameButWork b.stripe c.stripe
    pub bound : IsBound tells history state c
    pub sight : KeepsSight b.locks.now b.seat.view c.seat.view
    pub none_held : c.stripe.held.items ≡ []
    pub free : c.stripe.free.items ≡ b.stripe.free.items
    pub put : (i : ℕ) (h : Held) → slice_get b.stripe.held.items i ≡ Some h
        → IsPutAs (kept_by c) h (put_flag h)
    pub staying : (id : PageId) → IsStaying (kept_by b) id → IsStaying (kept_by c) id
    pub only : (id : PageId) → held_at b.stripe.held.items id.0 ≡ None
        → is_known (kept_by c) id ≡ is_known (kept_by b) id
    pub pages : (id : PageId) → tells ⊎ IsTrue (is_known (kept_by c) id)
        → page_bytes (file_by history c) (kept_by c) id ≡ page_bytes (file_by history b) (kept_by b) id
