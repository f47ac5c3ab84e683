-- The pages of an open store in page frames, while no thread has a frame.
use Rattle.std.specs.Prelude.{◌≡◌, ◌^◌, ◌&&◌, nat_lt, ℕ, Bool, true, false, [], ◌∷◌, length, Option, None, IfSome}
use Rattle.std.specs.Prelude.{if◌then◌else◌}
use Rattle.pm_types.specs.declared.page_id.PageId.{PageId}
use Rattle.pm_types.specs.declared.shape.Shape.{Shape}
use Rattle.pm_types.specs.Ids.{page_id}
use Rattle.pm_disk.specs.Worlds.{World}
use Rattle.pm_region.specs.Region.{Extent, range_of}
use Rattle.pm_locks.specs.Rule.{frame_range}
use Rattle.pm_locks.specs.Sight.{Sight, LockTable, IsFrameOf}
use Rattle.pm_core.specs.BasePages.{Partitions}
use Rattle.pm_stripe.specs.declared.stripe.Stripe.{Stripe}
use Rattle.pm_stripe.specs.Kept.{page_bytes, AreClean, IsStaying}
use Rattle.pm_stripe.specs.Readable.{ReadsAtHand}
use Rattle.pm_stripe.specs.Sights.{AreSettled}
use Rattle.pm_stripe.specs.Stripes.{kept, file_in, IsAtRest}
use Rattle.pm_ckpt.specs.Dirty.{dirty_pages}
use Rattle.pm_ckpt.specs.Frames.{IsWholeSeat}
use Rattle.pm_engine.specs.OutboxLogs.{AreOperationBytes}

-- What a store keeps in page frames: the locks over them, the seat that stands for all numbers, and the one
-- worker's stripe. `region` is the memory of the frames. `dirty` is how many pages stay in Dirty frames, where they were
-- counted and nothing was handed over since. It is open until a round ends at a fault, or a checkpoint fails.
pub record FrameStoreView : Type 0 where
  pub shape : Shape
  pub region : Extent
  pub locks : LockTable
  pub seat : Sight
  pub stripe : Stripe
  pub dirty : Option ℕ
  pub is_open : Bool

-- the pages of the store: as their frames have them, and else as the partitions' files do. There is none of a
-- partition that the store doesn't have, nor with an index of more than 32 bits.
abbrev pub pages_in_frames : FrameStoreView → World → Partitions
pages_in_frames store world part index =
    if nat_lt part store.shape.partitions && nat_lt index (2 ^ 32)
    then page_bytes (file_in store.stripe world) (kept store.stripe store.seat) (page_id part index) else None

-- the same, where no frame has a page
abbrev pub pages_in_files : Shape → Stripe → World → Partitions
pages_in_files shape stripe world part index =
    if nat_lt part shape.partitions && nat_lt index (2 ^ 32) then file_in stripe world (page_id part index) else None

-- the page stays in its frame: it was changed since the last checkpoint began
abbrev pub IsDirtyPage : FrameStoreView → PageId → Type 0
IsDirtyPage store id = IsStaying (kept store.stripe store.seat) id

-- how many pages stay in Dirty frames
abbrev pub dirty_count : FrameStoreView → ℕ
dirty_count store = length (dirty_pages store.locks (store.stripe ∷ []) store.seat.view)

-- each page that is Clean in its frame is as the partitions' files have it
abbrev pub HasCleanPages : FrameStoreView → World → Type 0
HasCleanPages store world = AreClean (file_in store.stripe world) (kept store.stripe store.seat)

-- the store is open no more
abbrev pub shut : FrameStoreView → FrameStoreView
shut store = record store { is_open = false }

-- The pages of an open store between two rounds: the stripe rests, but that its outbox may have what rounds handed
-- over, no checkpoint has to write a frame, and each page at hand reads as what it says.
pub record IsOpenStore (store : FrameStoreView) : Type 0 where
  pub workers : store.locks.workers ≡ 1
  pub number : store.stripe.number ≡ 0
  pub shaped : store.stripe.shape ≡ store.shape
  pub settled : AreSettled store.locks store.seat.view
  pub rests : IsAtRest store.locks (kept store.stripe store.seat)
  pub idle : store.stripe.is_running ≡ false
  pub readable : ReadsAtHand (λ id. None) store.locks.workers (kept store.stripe store.seat)

-- Between two calls: the seat stands for all numbers and has no frame out, and the outbox has operations only. The
-- frames lie in the region. Where it is remembered how many pages stay in Dirty frames, so many do.
pub record IsFrameStore (store : FrameStoreView) : Type 0 where
  pub seat : IsWholeSeat store.locks store.seat
  pub outbox : AreOperationBytes store.stripe.outbox
  pub counted : IfSome store.dirty (λ count. count ≡ dirty_count store)
  pub open_is : store.is_open ≡ true → IsOpenStore store
  pub frames : length store.locks.ranges ≡ store.region.frames
  pub size : store.shape.page_size ≡ store.region.size
  pub ranges : (f : ℕ) → IsFrameOf store.locks f → frame_range store.locks.ranges f ≡ range_of store.region f

-- A store as it begins: of this shape and over so many frames, with nothing handed over, and open. `has_files` says
-- whether the partitions' files have pages.
pub record IsNewStore (shape : Shape) (frames : ℕ) (has_files : Bool) (store : FrameStoreView) : Type 0 where
  pub shape_is : store.shape ≡ shape
  pub many : length store.locks.ranges ≡ frames
  pub files_are : store.stripe.files ≡ has_files
  pub none_logged : store.stripe.outbox ≡ []
  pub is_open : store.is_open ≡ true
  pub rests : IsFrameStore store
