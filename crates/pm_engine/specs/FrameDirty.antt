-- The pages that the next checkpoint of an open store in page frames writes.
use Rattle.std.specs.Prelude.{◌≡◌, ◌<◌, ◌^◌, ℕ, true, List, [], ◌∷◌}
use Rattle.pm_types.specs.declared.page_id.PageId.{PageId}
use Rattle.pm_disk.specs.Worlds.{World}
use Rattle.pm_core.specs.BasePages.{Partitions}
use Rattle.pm_core.specs.PageSets.{has_index}
use Rattle.pm_ckpt.specs.Dirty.{dirty_pages, dirty_held}
use Rattle.pm_engine.specs.Engines.{NamesDirty}
use Rattle.pm_engine.specs.FrameStores.{FrameStoreView, pages_in_frames}

-- the names of the pages in Dirty frames
abbrev pub dirty_names : FrameStoreView → List PageId
dirty_names store = dirty_pages store.locks (store.stripe ∷ []) store.seat.view

-- the bytes that they have there
abbrev pub dirty_bytes : FrameStoreView → Partitions
dirty_bytes store = dirty_held store.locks (store.stripe ∷ []) store.seat.view

-- These are the names of the pages that stay in their frames, each once, and these are the bytes that the store has
-- of them, whatever the partitions' files have.
pub record ListsDirty (store : FrameStoreView) (names : List PageId) (bytes : Partitions) : Type 0 where
  pub names_are : NamesDirty store names
  pub inside : (part index : ℕ) → has_index part index names ≡ true
      → (part < store.shape.partitions) × (index < 2 ^ 32)
  pub bytes_are : (world : World) (part index : ℕ) → has_index part index names ≡ true
      → bytes part index ≡ pages_in_frames store world part index
