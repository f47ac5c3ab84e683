-- A checkpoint of the pages of an open store in page frames.
use Rattle.std.specs.Prelude.{◌≡◌, ◌<◌, ◌^◌, ℕ, true, false, List, Some}
use Rattle.pm_types.specs.declared.page_id.PageId.{PageId}
use Rattle.pm_types.specs.declared.shape.Mark.{Mark}
use Rattle.pm_types.specs.Ids.{page_id}
use Rattle.pm_disk.specs.Worlds.{World, pages_in}
use Rattle.pm_segments.specs.Ends.{LogEnd}
use Rattle.pm_core.specs.BasePages.{page_in_file}
use Rattle.pm_ckpt.specs.Checkpoints.{LeavesLog}
use Rattle.pm_ckpt.specs.Dirty.{IsNext}
use Rattle.pm_ckpt.specs.Marked.{Kept, kept_segment, spent}
use Rattle.pm_engine.specs.FrameStores.{FrameStoreView, pages_in_frames, IsDirtyPage, HasCleanPages}

-- What a checkpoint that was made leaves of a store: no page is Dirty, and the partitions' files have pages. Each
-- page that was there is there with its bytes, by what the files have now, and the file of a partition of which no page
-- was Dirty is as it was. Where what was Clean was as the files had it, it is so still, and so each page is as its
-- partition's file has it.
pub record IsCheckpointed (tells : Type 0) (before after : World) (old new : FrameStoreView) : Type 0 where
  pub shape : new.shape ≡ old.shape
  pub region : new.region ≡ old.region
  pub locks : new.locks ≡ old.locks
  pub is_open : new.is_open ≡ old.is_open
  pub outbox : new.stripe.outbox ≡ old.stripe.outbox
  pub files : new.stripe.files ≡ true
  pub none_dirty : (id : PageId) → IsDirtyPage new id → ⊥
  pub pages : tells → (part index : ℕ) (bytes : List ℕ) → pages_in_frames old before part index ≡ Some bytes
      → pages_in_frames new after part index ≡ Some bytes
  pub alone : tells → (part : ℕ) → part < old.shape.partitions
      → ((index : ℕ) → index < 2 ^ 32 → IsDirtyPage old (page_id part index) → ⊥)
      → pages_in after part ≡ pages_in before part
  pub clean : tells → HasCleanPages old before → HasCleanPages new after
  pub as_files : tells → HasCleanPages old before → (part index : ℕ) → part < old.shape.partitions → index < 2 ^ 32
      → pages_in_frames new after part index ≡ page_in_file old.shape.page_size (pages_in after part) index

-- What a checkpoint that failed leaves of a store: it isn't open any more.
pub record ClosesStore (old new : FrameStoreView) : Type 0 where
  pub shape : new.shape ≡ old.shape
  pub region : new.region ≡ old.region
  pub locks : new.locks ≡ old.locks
  pub stripe : new.stripe ≡ old.stripe
  pub is_open : new.is_open ≡ false

-- A checkpoint with this mark was made: what is kept for checkpoints and the log are those after it, no page stays in its
-- frame, the log's last segment ends where the log does, and no segment that is kept loses what it had.
pub record MakesCheckpoint (tells : Type 0) (mark : Mark) (kept kept_now : Kept) (log log_now : LogEnd)
    (before after : World) (old new : FrameStoreView) : Type 0 where
  pub next : IsNext mark kept kept_now log log_now
  pub pages : IsCheckpointed tells before after old new
  pub ends : tells → LeavesLog (kept_segment mark) log log_now before after

-- A checkpoint failed: the store isn't open any more, and there is no room for another checkpoint.
pub record FailsCheckpoint (kept kept_now : Kept) (old new : FrameStoreView) : Type 0 where
  pub closed : ClosesStore old new
  pub no_room : kept_now ≡ spent kept
