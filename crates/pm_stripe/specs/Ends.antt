-- The end of a round.
use Rattle.std.specs.Prelude.{◌≡◌, ℕ, ◌⊎◌, List, [], ◌∷◌, Some, None, IsTrue, slice_get}
use Rattle.pm_types.specs.declared.page_id.PageId.{PageId}
use Rattle.pm_disk.specs.Moments.{History}
use Rattle.pm_locks.specs.Sight.{Sight}
use Rattle.pm_locks.specs.Views.{IsStill}
use Rattle.pm_stripe.specs.declared.bound.Bound.{Bound}
use Rattle.pm_stripe.specs.declared.held.Free.{Free}
use Rattle.pm_stripe.specs.declared.held.Held.{Held}
use Rattle.pm_stripe.specs.declared.stripe.Stripe.{Stripe}
use Rattle.pm_stripe.specs.Frees.{IsPutEmpty}
use Rattle.pm_stripe.specs.Kept.{held_at, page_bytes, is_known, IsStaying}
use Rattle.pm_stripe.specs.Puts.{unended_flag, IsPutAs}
use Rattle.pm_stripe.specs.Shown.{kept_by, file_by}
use Rattle.pm_stripe.specs.Sights.{KeepsSight}
use Rattle.pm_stripe.specs.Stripes.{kept, file_of, SameButFrames}

-- the first of these empty frames, or else this one
abbrev pub first_or : ℕ → List Free → ℕ
first_or next [] = next
first_or next (e ∷ es) = e.frame

-- where the next sweep begins once the empty frames in hand are put back: with the first of them, so that they are
-- taken again before frames that have pages
abbrev pub next_sweep : Stripe → ℕ
next_sweep s = first_or s.next s.free.items

module _ {Q R : Type 0} where
  -- A round ended: no frame is out, and each page that was in hand is in its frame, with the bytes that it had
  -- in hand: Dirty where it was lent to be written, Clean where it was only read from its file, and else with
  -- the flag that it had. The empty frames that were in hand are Empty, and the next sweep begins with them. Pages
  -- that stay do so still, and of those that were not in hand nothing changed. Each page is as it was where the
  -- files' content is told, and each that is at hand in any case. The seat knows what it knew.
  pub record EndsRound (tells : Type 0) (history : R → History) (b : Bound Q R) (s : Stripe) (seat : Sight)
      : Type 0 where
    pub same : SameButFrames b.stripe s
    pub next : s.next ≡ next_sweep b.stripe
    pub still : IsStill seat.view
    pub sight : KeepsSight b.locks.now b.seat.view seat.view
    pub put : (i : ℕ) (h : Held) → slice_get b.stripe.held.items i ≡ Some h
        → IsPutAs (kept s seat) h (unended_flag h)
    pub empty : (i : ℕ) (e : Free) → slice_get b.stripe.free.items i ≡ Some e → IsPutEmpty (kept s seat) e
    pub staying : (id : PageId) → IsStaying (kept_by b) id → IsStaying (kept s seat) id
    pub only : (id : PageId) → held_at b.stripe.held.items id.0 ≡ None
        → is_known (kept s seat) id ≡ is_known (kept_by b) id
    pub pages : (id : PageId) → tells ⊎ IsTrue (is_known (kept s seat) id)
        → page_bytes (file_of s (history b.reader)) (kept s seat) id
        ≡ page_bytes (file_by history b) (kept_by b) id
