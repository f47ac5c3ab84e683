-- What contracts see of a worker's pages of the partition that is meant, and what each call on them keeps.
use Rattle.std.specs.Prelude.{◌≡◌, ◌≢◌, ℕ, ◌-◌, ◌⊎◌, Bool, true, false, List, length, Option, Some, None}
use Rattle.std.specs.Prelude.{IsTrue}
use Rattle.pm_types.specs.declared.limits.TheConstants.{OP_PAGES}
use Rattle.pm_types.specs.declared.page_id.PageId.{PageId}
use Rattle.pm_types.specs.Ids.{page_id, part_of_id}
use Rattle.pm_types.specs.Spans.{Coverage}
use Rattle.pm_disk.specs.Moments.{History}
use Rattle.pm_disk.specs.States.{DeviceState, IsLaterState}
use Rattle.pm_pages.specs.Paged.{Paged}
use Rattle.pm_stripe.specs.declared.held.Held.{Held}
use Rattle.pm_stripe.specs.declared.bound.Bound.{Bound}
use Rattle.pm_stripe.specs.Bases.{KeepsBases}
use Rattle.pm_stripe.specs.Kept.{Kept, held_at, page_bytes, is_known, IsStaying}
use Rattle.pm_stripe.specs.Moves.{HasOperation}
use Rattle.pm_stripe.specs.Sights.{KeepsSight}
use Rattle.pm_stripe.specs.Stripes.{kept, file_of, SameButPages}
use Rattle.pm_stripe.specs.Bounds.{IsBound}

-- whether a page is in hand, and whether it was lent; and its patch, if one was noted
abbrev pub is_held : Option Held → Bool
is_held None = false
is_held (Some h) = true

abbrev pub is_lent : Option Held → Bool
is_lent None = false
is_lent (Some h) = h.is_lent

abbrev pub patch_of : Option Held → Option Coverage
patch_of None = None
patch_of (Some h) = h.patch

-- the pages of a partition, where the files have these pages, and so many calls on the disk have failed
abbrev pub paged : (PageId → Option (List ℕ)) → ℕ → ℕ → Kept → Paged
paged file faults part k = record {
  page_size = k.shape.page_size;
  max_rows = k.shape.max_rows;
  part = part;
  pages = λ i. page_bytes file k (page_id part i);
  known = λ i. is_known k (page_id part i);
  asked = λ i. is_held (held_at k.held (page_id part i).0);
  spare = OP_PAGES - length k.held;
  lent = λ i. is_lent (held_at k.held (page_id part i).0);
  patch = λ i. patch_of (held_at k.held (page_id part i).0);
  faults = faults;
}

-- The pages of other partitions are as they were: those at hand, which stay so, and, where the files' content
-- is told, each.
pub record KeepsOthers (tells : Type 0) (file file' : PageId → Option (List ℕ)) (part : ℕ) (k k' : Kept)
    : Type 0 where
  pub known : (id : PageId) → part_of_id id ≢ part → is_known k' id ≡ is_known k id
  pub pages : (id : PageId) → part_of_id id ≢ part → tells ⊎ IsTrue (is_known k id)
      → page_bytes file' k' id ≡ page_bytes file k id

module _ {Q R : Type 0} where
  -- what a stripe that is bound keeps of its pages, and what the files have
  abbrev pub kept_by : Bound Q R → Kept
  kept_by b = kept b.stripe b.seat

  abbrev pub file_by : (R → History) → Bound Q R → PageId → Option (List ℕ)
  file_by history b = file_of b.stripe (history b.reader)

  -- the pages of the partition that is meant
  abbrev pub shown : (R → History) → (R → DeviceState) → Bound Q R → Paged
  shown history state b = paged (file_by history b) (state b.reader).faults b.part (kept_by b)

  -- The last `ready` answered Ok, and all is in order.
  pub record IsReady (tells : Type 0) (history : R → History) (state : R → DeviceState) (b : Bound Q R)
      : Type 0 where
    pub is_ready : b.is_ready ≡ true
    pub bound : IsBound tells history state b
    pub operates : HasOperation b.locks.now b.part (kept_by b)

  -- what a call leaves of pages that were ready for it
  pub record LeavesReady (tells : Type 0) (history : R → History) (state : R → DeviceState) (b c : Bound Q R)
      : Type 0 where
    pub ready : IsReady tells history state c
    pub others : KeepsOthers tells (file_by history b) (file_by history c) b.part (kept_by b) (kept_by c)
    pub bases : KeepsBases b.stripe.shape.page_size tells (file_by history b) (file_by history c) (kept_by b)
        (kept_by c)
    -- what stays in its frame does so still
    pub staying : (id : PageId) → IsStaying (kept_by b) id → IsStaying (kept_by c) id

  -- What no call on a page changes: the locks, the partition that is meant, the outbox and all else of the
  -- stripe but its pages, and the files. The reader may read what it might read, and the seat knows what it knew.
  pub record KeepsBound (tells : Type 0) (history : R → History) (state : R → DeviceState) (b c : Bound Q R)
      : Type 0 where
    pub locks : c.locks ≡ b.locks
    pub part : c.part ≡ b.part
    pub is_ready : c.is_ready ≡ b.is_ready
    pub same : SameButPages b.stripe c.stripe
    pub world : tells → (history c.reader).world ≡ (history b.reader).world
    pub later : IsLaterState (state b.reader) (state c.reader)
    pub sight : KeepsSight b.locks.now b.seat.view c.seat.view
    pub leaves : IsReady tells history state b → LeavesReady tells history state b c
